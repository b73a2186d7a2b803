-- Planning fails only if the definitions reject the input, or memory runs out.
use Rattle.std.proofs.Common.{◌≡◌, Option, Some, None, refl, sym, subst}
use Rattle.std.specs.Prelude.{Result, Ok, Err, IfSome, IsOkUnless}
use Rattle.bx_entry.specs.Inputs.{IsFault}
use Rattle.bx_entry.specs.declared.{input.AdmitFault.AdmitFault, input.Refusal.Refusal, input.AdmitFault.TheVariants.Memory, input.AdmitFault.TheVariants.Refused}

pub fault_told : {T : Type 0} (refusal : Option Refusal) (r : Result T AdmitFault) (fault : AdmitFault) → r ≡ Err fault →
    IfSome refusal (λ x. r ≡ Err (Refused x)) → (refusal ≡ None → IsOkUnless r Memory) → IsFault refusal fault
fault_told (Some x) r fault e some none = let same : Refused x ≡ fault = cc in subst (λ (f : AdmitFault). IsFault (Some x) f) same refl
fault_told {T} None r fault e some none =
    let same : fault ≡ Memory = subst (λ (x : Result T AdmitFault). IsOkUnless x Memory) e (none refl) in
    subst (λ (f : AdmitFault). IsFault None f) (sym same) refl

pub planned_taken : {T : Type 0} (refusal : Option Refusal) (r : Result T AdmitFault) (x : T) → r ≡ Ok x → IfSome refusal (λ y. r ≡ Err (Refused y)) → refusal ≡ None
planned_taken (Some y) r x e some = cc
planned_taken None r x e some = refl

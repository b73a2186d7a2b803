-- First parts of a text that is written.
use Rattle.std.proofs.Common.{◌≡◌, ℕ, Option, List, [], ◌∷◌, ◌++◌, Result, Ok, Err, decimal, refl, sym, ap, ◌∙◌, subst, append-nil, append_assoc}
use Rattle.std.specs.{Prelude.IsErr, Prelude.OnOk, Io.KnownBytes.Appends, Io.KnownBytes.Keeps}
use Rattle.std.proofs.KnownBytes.{Appends-kept, Appends-nil, Appends-trans}
use Rattle.bx_script.specs.Words.{line_text, AppendsFront, Writes}

pub front_none : (a : Option (List ℕ)) (text : List ℕ) → AppendsFront a a text
front_none a text = record { written = []; unwritten = text; whole = refl; appends = Appends-nil a }

pub front_first : (a b : Option (List ℕ)) (xs ys : List ℕ) → AppendsFront a b xs → AppendsFront a b (xs ++ ys)
front_first a b xs ys f = record {
  written = f.written;
  unwritten = f.unwritten ++ ys;
  whole = ap (λ (t : List ℕ). t ++ ys) f.whole ∙ append_assoc f.written f.unwritten ys;
  appends = f.appends;
}

pub front_second : (a b c : Option (List ℕ)) (xs ys : List ℕ) → Appends a b xs → AppendsFront b c ys → AppendsFront a c (xs ++ ys)
front_second a b c xs ys h f = record {
  written = xs ++ f.written;
  unwritten = f.unwritten;
  whole = ap (λ (t : List ℕ). xs ++ t) f.whole ∙ sym (append_assoc xs f.written f.unwritten);
  appends = Appends-trans a b c xs f.written h f.appends;
}

pub writes_second : {A E : Type 0} (a b c : Option (List ℕ)) (r : Result A E) (xs ys : List ℕ) → Appends a b xs → Writes b c r ys → Writes a c r (xs ++ ys)
writes_second a b c (Ok x) xs ys h w = Appends-trans a b c xs ys h w
writes_second a b c (Err x) xs ys h w = front_second a b c xs ys h w

pub fault_writes : {A E : Type 0} (a b : Option (List ℕ)) (r : Result A E) (text whole : List ℕ) → text ≡ whole → IsErr r → AppendsFront a b whole → Writes a b r text
fault_writes a b (Ok x) text whole e h f = absurd cc
fault_writes a b (Err x) text whole e h f = subst (AppendsFront a b) (sym e) f

pub front_all : (a b c : Option (List ℕ)) (text : List ℕ) → Appends a b text → Keeps b c → AppendsFront a c text
front_all a b c text h k = record { written = text; unwritten = []; whole = sym (append-nil text); appends = Appends-kept a b c text h k }

pub writes_all : {A E : Type 0} (a b c : Option (List ℕ)) (r : Result A E) (text : List ℕ) → Appends a b text → Keeps b c → Writes a c r text
writes_all a b c (Ok x) text h k = Appends-kept a b c text h k
writes_all a b c (Err x) text h k = front_all a b c text h k

-- ---- Results

pub writes_ok : {A E : Type 0} (a b : Option (List ℕ)) (r : Result A E) (text : List ℕ) → Writes a b r text → OnOk r (Appends a b text)
writes_ok a b (Ok x) text w = w
writes_ok a b (Err x) text w = tt

-- ---- Lines

pub line_parts : (number : ℕ) (digits lead text : List ℕ) → digits ≡ decimal number → line_text number (lead ++ text) ≡ digits ++ ((32 ∷ []) ++ (lead ++ (text ++ 10 ∷ [])))
line_parts number digits lead text is =
    ap (λ (t : List ℕ). decimal number ++ (32 ∷ t)) (append_assoc lead text (10 ∷ [])) ∙ ap (λ (t : List ℕ). t ++ (32 ∷ (lead ++ (text ++ 10 ∷ [])))) (sym is)

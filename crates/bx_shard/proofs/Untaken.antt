-- Look-ups among the answers that were not taken.
use Rattle.std.proofs.Common.{arith, ◌≡◌, ℕ, false, not, Option, Some, None, List, [], ◌∷◌, take, filter, find, flat_map, ◌==◌, refl, sym, ap, ◌∙◌, true}
use Rattle.std.specs.{List.All, Option.option_or}
use Rattle.std.proofs.lemmas.{List.Elements.All-head, List.Elements.All-tail, List.Elements.filter_passes, List.Folds.find-append, List.Folds.flat_map-map}
use Rattle.bx_entry.specs.Words.{Listed, Registered, entries_of, registry, Filed, Session, session}
use Rattle.bx_shard.proofs.Cases.{by_option}
use Rattle.bx_entry.specs.Placings.{Setup}
use Rattle.bx_shard.specs.Shards.{is_taken, sessions_in, shard_at, is_placed_in}

abbrev pub find_of : ℕ → List Filed → Option Filed
find_of p fs = find (λ (f : Filed). f.connect == p) fs

abbrev pub untaken : List ℕ → List Filed → List Filed
untaken taken fs = filter (λ (f : Filed). not (is_taken taken f.connect)) fs

pub found_kept : (taken : List ℕ) (place : ℕ) (fs : List Filed) (f : Filed) → find (λ (g : Filed). g.connect == place) (filter (λ (g : Filed). not (is_taken taken g.connect)) fs) ≡ Some f →
    (find (λ (g : Filed). g.connect == place) fs ≡ Some f) × (is_taken taken place ≡ false)
found_kept taken place [] f e = cc
found_kept taken place (g ∷ fs) f e = grind (arith, found_kept taken place fs f)

pub find_untaken : (taken : List ℕ) (place : ℕ) (fs : List Filed) → is_taken taken place ≡ false → find (λ (g : Filed). g.connect == place) (filter (λ (g : Filed). not (is_taken taken g.connect)) fs) ≡ find (λ (g : Filed). g.connect == place) fs
find_untaken taken place [] h = refl
find_untaken taken place (g ∷ fs) h = grind (arith, find_untaken taken place fs h)

-- ---- the session of an answer

pub record FoundBy {X : Type 0} (P : X → Type 0) (A : X → List Filed) (p : ℕ) (f : Filed) : Type 0 where
  pub one : X
  pub holds : P one
  pub found : find_of p (A one) ≡ Some f

pub found_by : {X : Type 0} (P : X → Type 0) (A : X → List Filed) (p : ℕ) (f : Filed) (xs : List X) → All P xs → find_of p (flat_map A xs) ≡ Some f → FoundBy P A p f
found_by P A p f [] each e = absurd (let no : None ≡ Some f = e in cc)
found_by P A p f (x ∷ xs) each e =
    by_option (λ o. option_or o (find_of p (flat_map A xs)) ≡ Some f → FoundBy P A p f) (find_of p (A x))
    (λ none rest. found_by P A p f xs (All-tail P x xs each) rest) (λ g here same. record { one = x; holds = All-head P x xs each; found = here ∙ same })
    (sym (find-append (λ (g : Filed). g.connect == p) (A x) (flat_map A xs)) ∙ e)

pub found_in : (setup : Setup) (list : List Listed) (taken : List ℕ) (shard n p : ℕ) (f : Filed) → find_of p (shard_at setup list taken shard n).filed ≡ Some f →
    FoundBy (λ (r : Registered). is_placed_in setup shard r.number ≡ true) (λ (r : Registered). (session setup.config r.number (entries_of (registry setup.config (take n list)))).answers) p f
found_in setup list taken shard n p f e =
    let rs : List Registered = filter (λ (r : Registered). is_placed_in setup shard r.number) (registry setup.config (take n list)).sessions in
    let S : Registered → Session = λ r. session setup.config r.number (entries_of (registry setup.config (take n list))) in
    found_by (λ r. is_placed_in setup shard r.number ≡ true) (λ r. (S r).answers) p f rs (filter_passes (λ r. is_placed_in setup shard r.number) (registry setup.config (take n list)).sessions)
    (ap (find_of p) (sym (flat_map-map (λ (s : Session). s.answers) S rs)) ∙ (found_kept taken p (flat_map (λ (s : Session). s.answers) (sessions_in setup list shard n)) f e).0)

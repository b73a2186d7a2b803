-- Proves that a read up to the first newline gives the first line.
use Rattle.std.proofs.Common.{◌≡◌, ℕ, Bool, true, false, eqb, cond, List, [], ◌∷◌, ◌++◌, refl, sym, ap, ◌∙◌, Option, Some, None, IfSome}
use Rattle.std.specs.Io.BufRead.{take_through, drop_through, DropsThrough}
use Rattle.bx_script.specs.Words.{first_of, rest_of}
use Rattle.bx_script.proofs.Cuts.{before_at, before_past, after_at, after_past}

first_by : (x : ℕ) (xs : List ℕ) (b : Bool) → eqb x 10 ≡ b → first_of (take_through 10 xs) ≡ first_of xs → first_of (cond b (x ∷ []) (x ∷ take_through 10 xs)) ≡ first_of (x ∷ xs)
first_by x xs true e rest = before_at 10 x [] e ∙ sym (before_at 10 x xs e)
first_by x xs false e rest = before_past 10 x (take_through 10 xs) e ∙ ap (λ l. x ∷ l) rest ∙ sym (before_past 10 x xs e)

pub through_first : (xs : List ℕ) → first_of (take_through 10 xs) ≡ first_of xs
through_first [] = refl
through_first (x ∷ xs) = first_by x xs (eqb x 10) refl (through_first xs)

rest_by : (x : ℕ) (xs : List ℕ) (b : Bool) → eqb x 10 ≡ b → drop_through 10 xs ≡ rest_of xs → cond b xs (drop_through 10 xs) ≡ rest_of (x ∷ xs)
rest_by x xs true e rest = sym (after_at 10 x xs e)
rest_by x xs false e rest = rest ∙ sym (after_past 10 x xs e)

pub through_rest : (xs : List ℕ) → drop_through 10 xs ≡ rest_of xs
through_rest [] = refl
through_rest (x ∷ xs) = rest_by x xs (eqb x 10) refl (through_rest xs)

pub line_read : (known : Option (List ℕ)) (before line : List ℕ) → before ≡ [] → IfSome known (λ xs. line ≡ before ++ take_through 10 xs) → IfSome known (λ text. first_of line ≡ first_of text)
line_read None before line none e = tt
line_read (Some xs) before line none e = ap first_of (e ∙ ap (λ b. b ++ take_through 10 xs) none) ∙ through_first xs

pub rest_left : (known new : Option (List ℕ)) → DropsThrough known new 10 → IfSome known (λ text. new ≡ Some (rest_of text))
rest_left None new e = tt
rest_left (Some xs) new e = e ∙ ap Some (through_rest xs)

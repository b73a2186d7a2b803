-- What reading a part of a line does to the known bytes.
use Rattle.std.proofs.Common.{◌≡◌, ◌≢◌, ℕ, ◌+◌, ◌<◌, List, [], ◌∷◌, ◌++◌, fold, length, take, refl, sym, ap, subst, ◌∙◌, arith, Option, Some, None, OnSome, take_all, append_assoc, append-nil, length-append}
use Rattle.std.specs.{List.before_first, List.position_or_len, Io.KnownBytes.Consumes, Io.KnownBytes.IsAtEnd}
use Rattle.bx_script.specs.Words.{is_newline, kept_with, keep_byte, first_of, rest_of, IsCut, PartRead, ReadsPart}
use Rattle.bx_script.specs.declared.{kept.TheConstants.KEPT_LIMIT, part.ReadOutcome.ReadOutcome}
use Rattle.bx_script.specs.declared.part.ReadOutcome.TheVariants.{Again, More, Line, End}
use Rattle.bx_script.proofs.Cuts.{Lacks, before_behind, after_behind, before_lacks, taken_through}

fold-append : (f : List ℕ → ℕ → List ℕ) (k xs ys : List ℕ) → fold f k (xs ++ ys) ≡ fold f (fold f k xs) ys
fold-append f k [] ys = refl
fold-append f k (x ∷ xs) ys = fold-append f (f k x) xs ys

pub kept_with-append : (k xs ys : List ℕ) → kept_with k (xs ++ ys) ≡ kept_with (kept_with k xs) ys
kept_with-append k xs ys = fold-append (keep_byte KEPT_LIMIT) k xs ys

lacks_all : (xs : List ℕ) → position_or_len is_newline xs ≡ length xs → Lacks 10 xs
lacks_all xs h = subst (Lacks 10) (ap (λ n. take n xs) h ∙ take_all (length xs) xs (omega arith)) (before_lacks 10 xs)

more_read : (shown y kept now : List ℕ) → shown ≢ [] → Lacks 10 shown → now ≡ kept_with kept shown → PartRead More (shown ++ y) y kept now
more_read [] y kept now some lacks is = absurd (some refl)
more_read (x ∷ xs) y kept now some lacks is = (
  λ none. cc,
  ap (λ k. kept_with k (first_of y)) is ∙ sym (kept_with-append kept (x ∷ xs) (first_of y)) ∙ ap (kept_with kept) (sym (before_behind 10 (x ∷ xs) y lacks)),
  sym (after_behind 10 (x ∷ xs) y lacks),
)

line_read : (m y kept now : List ℕ) → Lacks 10 m → now ≡ kept_with kept m → PartRead Line ((m ++ 10 ∷ []) ++ y) y kept now
line_read m y kept now lacks is =
    let joined : (m ++ 10 ∷ []) ++ y ≡ m ++ 10 ∷ y = append_assoc m (10 ∷ []) y in
    let first : first_of (m ++ 10 ∷ y) ≡ m ++ [] = before_behind 10 m (10 ∷ y) lacks in
    let rest : rest_of (m ++ 10 ∷ y) ≡ y = after_behind 10 m (10 ∷ y) lacks in (
      λ none. omega (arith, ap length none, length-append (m ++ 10 ∷ []) y, length-append m (10 ∷ [])),
      is ∙ ap (kept_with kept) (sym (append-nil m) ∙ sym first ∙ ap first_of (sym joined)),
      sym rest ∙ ap rest_of (sym joined),
    )

part_read : (step : ReadOutcome) (x y shown : List ℕ) (n used : ℕ) (kept now : List ℕ) → IsCut shown n used step → x ≡ take used shown ++ y → (length shown ≡ 0 → y ≡ []) → now ≡ kept_with kept (take n shown)
    → PartRead step x y kept now
part_read Again x y shown n used kept now cut e end is = absurd cut
part_read More x y shown n used kept now cut e end is =
    let all : x ≡ shown ++ y = e ∙ ap (λ k. take k shown ++ y) cut.2 ∙ ap (λ l. l ++ y) (take_all (length shown) shown (omega arith)) in
    let whole : now ≡ kept_with kept shown = is ∙ ap (λ k. kept_with kept (take k shown)) cut.1 ∙ ap (kept_with kept) (take_all (length shown) shown (omega arith)) in
    subst (λ l. PartRead More l y kept now) (sym all) (more_read shown y kept now cut.0 (lacks_all shown cut.3) whole)
part_read Line x y shown n used kept now cut e end is =
    let within : position_or_len is_newline shown < length shown = omega (arith, cut.0, cut.2) in
    let m = before_first is_newline shown in
    let all : x ≡ (m ++ 10 ∷ []) ++ y = e ∙ ap (λ k. take k shown ++ y) (cut.1 ∙ ap (λ k. k + 1) cut.0) ∙ ap (λ l. l ++ y) (taken_through 10 shown within) in
    subst (λ l. PartRead Line l y kept now) (sym all) (line_read m y kept now (before_lacks 10 shown) (is ∙ ap (λ k. kept_with kept (take k shown)) cut.0))
part_read End x y shown n used kept now cut e end is =
    let none : y ≡ [] = end (ap length cut.0) in
    let all : x ≡ y = e ∙ ap (λ k. take k shown ++ y) cut.2 in
    (all ∙ none, sym all, is ∙ ap (λ k. kept_with kept (take k shown)) cut.1)

pub reads_part : (step : ReadOutcome) (a c : Option (List ℕ)) (shown : List ℕ) (n used : ℕ) (kept now : List ℕ) → IsCut shown n used step
    → Consumes a c (take used shown) → (length shown ≡ 0 → OnSome a (IsAtEnd c)) → now ≡ kept_with kept (take n shown) → ReadsPart step a c kept now
reads_part step None c shown n used kept now cut e end is = tt
reads_part step (Some x) None shown n used kept now cut e end is = absurd e
reads_part step (Some x) (Some y) shown n used kept now cut e end is = part_read step x y shown n used kept now cut e end is

-- What the grammar reads: the tokens of a value, and the rest.
use Rattle.std.proofs.Common.{◌≡◌, ℕ, zero, suc, List, [], ◌++◌, ◌≤◌, length, Option, Some, None, option_and_then, refl, sym, ap, ◌∙◌, arith}
use Rattle.std.proofs.lemmas.{List.append-nil, Grind.common_steps}
use Rattle.json.specs.{Token.Token, Lex.tokens}
use Rattle.json.specs.Json.{Json, Items, Members, Parse, after_end_array, read_key, items_step, members_step, items, members, value_with, value, if_last}
use Rattle.json.specs.Tree.{json_tokens, items_tokens, members_tokens, HasNumbers, depth}
use Rattle.json.proofs.{Numbered.ArePrintableOrBad-tokens, Numbered.value-HasNumbers, Nesting.value-depth, Printed.Trees.value-json_tokens}
use Rattle.serde_json.specs.{Data.Data, Read.of_json, Read.read}
use Rattle.bx_cut.proofs.Reach.{from_and_then}

abbrev Fronts : {A : Type 0} → (A → List Token) → Parse A → Type 0
Fronts {A} shown p = (ts : List Token) (q : A × List Token) → Some q ≡ p ts → ts ≡ shown q.0 ++ q.1

none_some : {A P : Type 0} (q : A) → Some q ≡ None → P
none_some q e = cc

module _ (p : Parse Json) (fronts : Fronts json_tokens p) where
  item_front : (more : Parse Items) → Fronts items_tokens more → (ts : List Token) (o : Option (List Token)) → after_end_array ts ≡ o → (q : Items × List Token) → Some q ≡ items_step p more ts o → ts ≡ items_tokens q.0 ++ q.1
  item_front more h1 ts o h2 q h3 = grind (arith, common_steps)

  items_front : (n : ℕ) → Fronts items_tokens (items p n)
  unfolding items
  items_front zero ts q e = none_some q e
  items_front (suc n) ts q e = item_front (items p n) (items_front n) ts (after_end_array ts) refl q e

  member_front : (more : Parse Members) → Fronts members_tokens more → (ts : List Token) (o : Option (Option (List ℕ) × List Token)) → read_key ts ≡ o → (q : Members × List Token) → Some q ≡ option_and_then (λ x. members_step p more x.0 x.1) o
      → ts ≡ members_tokens q.0 ++ q.1
  member_front more h1 ts o h2 q h3 = grind (arith, common_steps)

  members_front : (n : ℕ) → Fronts members_tokens (members p n)
  unfolding members
  members_front zero ts q e = none_some q e
  members_front (suc n) ts q e = member_front (members p n) (members_front n) ts (read_key ts) refl q e

value_with_front : (a : Parse Items) (o : Parse Members) → Fronts items_tokens a → Fronts members_tokens o → Fronts json_tokens (value_with a o)
value_with_front a o h1 h2 = grind (arith, common_steps)

value_front : (d : ℕ) → Fronts json_tokens (value d)
unfolding value
value_front zero = value_with_front (λ ts. None) (λ ts. None) (λ ts q e. none_some q e) (λ ts q e. none_some q e)
value_front (suc d) = value_with_front (λ ts. items (value d) (length ts) ts) (λ ts. members (value d) (length ts) ts) (λ ts. items_front (value d) (value_front d) (length ts) ts) (λ ts. members_front (value d) (value_front d) (length ts) ts)

-- ---- a whole text

-- The whole `text` parses as `d`, and its arrays and objects nest at most `levels` deep.
pub record WholeWithin (levels : ℕ) (text : List ℕ) (d : Data) : Type 0 where
  pub json : Json
  pub tokens_are : tokens text ≡ json_tokens json
  pub data_is : of_json json ≡ Some d
  pub numbers : HasNumbers json
  pub shallow : depth json ≤ levels

abbrev within : ℕ → List ℕ → Option Data
within levels text = option_and_then of_json (option_and_then (λ p. if_last p.0 p.1) (value levels (tokens text)))

last : (o : Option (Json × List Token)) (j : Json) → Some j ≡ option_and_then (λ p. if_last p.0 p.1) o → Some (j, []) ≡ o
last o j h1 = grind (arith, common_steps)

pub whole_within : (levels : ℕ) (text : List ℕ) (d : Data) → within levels text ≡ Some d → WholeWithin levels text d
whole_within levels text d e =
    let outer = from_and_then of_json (option_and_then (λ p. if_last p.0 p.1) (value levels (tokens text))) d (sym e) in
    let found = last (value levels (tokens text)) outer.0 outer.1 in
    record {
      json = outer.0;
      tokens_are = value_front levels (tokens text) (outer.0, []) found ∙ append-nil (json_tokens outer.0);
      data_is = sym outer.2;
      numbers = value-HasNumbers levels (tokens text) [] outer.0 (ArePrintableOrBad-tokens text) (sym found);
      shallow = value-depth levels (tokens text) [] outer.0 (sym found);
    }

pub whole : (text : List ℕ) (d : Data) → read text ≡ Some d → WholeWithin 127 text d
whole text d e = whole_within 127 text d e

pub reads_within : (levels : ℕ) (text : List ℕ) (j : Json) → tokens text ≡ json_tokens j → depth j ≤ levels → within levels text ≡ of_json j
reads_within levels text j e h =
    let got : value levels (tokens text) ≡ Some (j, []) = ap (value levels) (e ∙ sym (append-nil (json_tokens j))) ∙ value-json_tokens j levels [] h in
    ap (λ (o : Option (Json × List Token)). option_and_then of_json (option_and_then (λ p. if_last p.0 p.1) o)) got

pub reads_as : (text : List ℕ) (j : Json) → tokens text ≡ json_tokens j → depth j ≤ 127 → read text ≡ of_json j
reads_as text j e h = reads_within 127 text j e h

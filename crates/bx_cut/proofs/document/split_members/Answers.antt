use Rattle.std.proofs.Common.{◌≡◌, ℕ, List, [], ◌∷◌, ◌++◌, map, ap, ◌∙◌, rules}
use Rattle.std.proofs.lemmas.List.{map-append}
use Rattle.bx_cut.specs.Words.{Member, listed, split_member, member_view}
use Rattle.bx_cut.specs.declared.split.Member as code
use Rattle.bx_cut.proofs.{Reach.IsRest-of, Reach.IsRest-whole, Lists.grown-none, Lists.grown-last, Lists.grown-more, Lists.Shortens-split_member}
use Rattle.bx_cut.proofs.document.split_members.Goals as goal

pushed : (old new : List code.Member) (m : code.Member) → new ≡ old ++ m ∷ [] → map member_view new ≡ map member_view old ++ member_view m ∷ []
pushed old new m e = ap (map member_view) e ∙ map-append member_view old (m ∷ [])

pub loop-member-init : goal.loop-member-init
loop-member-init c =
    let all = listed split_member c.args.text.now in
    (c.utf8.text, IsRest-whole c.args.text.now c.utf8.text, ap (λ (l : List code.Member). (map member_view l ++ all.0, all.1)) c.new-members.ensures.items)

pub returns-in_default-past : goal.returns-in_default-past
returns-in_default-past c =
    let t = c.loop-member.rest.now in
    let done = map member_view c.loop-member.members.items in
    let p : Member × List ℕ = (member_view c.in-Some.member, c.in-Some.after.now) in
    let seen = pushed c.loop-member.members.items c.push.new.self.items c.in-Some.member c.in_ok-push.ensures.items in
    let last = grown-last split_member Shortens-split_member done t p (listed split_member c.args.text.now) c.in-Some.ensures.value c.in_default-past.ensures.value c.loop-member.invariant.2 in
    record {
      value = ap (λ (l : List Member). (l, c.in-Some.after.now)) seen ∙ last;
      rest = IsRest-of _ _ _ c.in-Some.ensures.rest c.loop-member.invariant.1;
    }

pub loop-member-preserved : goal.loop-member-preserved
loop-member-preserved c =
    let t = c.loop-member.rest.now in
    let next = c.in-Some-past.next.now in
    let done = map member_view c.loop-member.members.items in
    let p : Member × List ℕ = (member_view c.in-Some.member, c.in-Some.after.now) in
    let seen = pushed c.loop-member.members.items c.push.new.self.items c.in-Some.member c.in_ok-push.ensures.items in
    let more = grown-more split_member Shortens-split_member done t p next (listed split_member c.args.text.now) c.in-Some.ensures.value c.in-Some-past.ensures.value c.loop-member.invariant.2 in (
      search rules,
      IsRest-of _ _ _ c.in-Some-past.ensures.rest (IsRest-of _ _ _ c.in-Some.ensures.rest c.loop-member.invariant.1),
      ap (λ (l : List Member). (l ++ (listed split_member next).0, (listed split_member next).1)) seen ∙ more,
    )

pub returns : goal.returns
returns c = record {
  value = grown-none split_member Shortens-split_member (map member_view c.loop-member.members.items) c.loop-member.rest.now (listed split_member c.args.text.now) c.in_default.ensures.value c.loop-member.invariant.2;
  rest = c.loop-member.invariant.1;
}

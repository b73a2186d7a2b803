use Rattle.std.proofs.Common.{ℕ, List, fold, ap, sym, subst, ◌∙◌, arith}
use Rattle.bx_entry.specs.Registry.{Registered}
use Rattle.bx_roster.specs.Words.{Members, edited, CanEdit}
use Rattle.bx_roster.specs.declared.edit.Edit.{Edit}
use Rattle.bx_registry.specs.SessionOverlays.{Overlay, IsOverlay, members_of}
use Rattle.bx_registry.proofs.Overlays.{limit-same, pushed-open, pushed-extend, pushed-close}
use Rattle.bx_registry.proofs.session_overlay.SessionOverlay.push.Goals.{in-Open, in-Extend, in-Close}
use Rattle.bx_registry.proofs.session_overlay.SessionOverlay.push.Goals as goal
use Rattle.std.proofs.lemmas.Grind.{common_steps}

pub overflow_add-count : goal.overflow_add-count
overflow_add-count c = grind (arith, common_steps, limit-same)

pub invariant_of-self-2 : goal.invariant_of-self-2
invariant_of-self-2 c =
    let base : Members = c.self.inside.table.now.members in
    let es : List Edit = c.self.inside.edits in
    let can : CanEdit (fold edited base es) c.args.edit = subst (λ (d : Overlay). CanEdit (members_of d) c.args.edit) (sym c.self.view_is) c.requires in
    let items = c.in_ok-push.ensures.ok in
    elim c.match-edit.branch as (λ _. IsOverlay base c.push.new.self c.match-edit.count.0 c.match-edit.count.1) [
      | in-Open w ↦ pushed-open base es c.push.new.self c.args.edit w.in-Open.session c.match-edit.count.0 c.match-edit.count.1 c.self.invariant items w.in-Open.is can
          (ap (λ (p : ℕ × ℕ). p.0) w.count-is) (ap (λ (p : ℕ × ℕ). p.1) w.count-is ∙ ap (λ (r : Registered). r.number) w.session.view_is)
      | in-Extend w ↦ pushed-extend base es c.push.new.self c.args.edit w.in-Extend.number w.in-Extend.due c.match-edit.count.0 c.match-edit.count.1 c.self.invariant items w.in-Extend.is
          (ap (λ (p : ℕ × ℕ). p.0) w.count-is) (ap (λ (p : ℕ × ℕ). p.1) w.count-is)
      | in-Close w ↦ pushed-close base es c.push.new.self c.args.edit w.in-Close.number c.match-edit.count.0 c.match-edit.count.1 c.self.invariant items w.in-Close.is can
          (ap (λ (p : ℕ × ℕ). p.0) w.count-is) (ap (λ (p : ℕ × ℕ). p.1) w.count-is)
    ]

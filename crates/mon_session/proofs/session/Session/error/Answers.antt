use Rattle.std.proofs.Common.{◌≡◌, List, ℕ, [], Some, ap, sym, ◌∙◌}
use Rattle.mon_legal.specs.Runs.{Run}
use Rattle.mon_legal.specs.Edits.{rejected_by}
use Rattle.mon_session.specs.Walks.{Known}
use Rattle.mon_session.proofs.Erring.{error_walk}
use Rattle.mon_session.proofs.session.Session.error.Goals as goal

pub returns-clause-walk : goal.returns-clause-walk
returns-clause-walk c =
    let k : Known = c.args.self.now in
    let never : k.now.postponed ≡ [] = ap (λ (x : Known). x.now.postponed) (sym c.greet.ensures) ∙ ap (λ (x : Known). x.now.postponed) (sym c.self.view_is) in
    let some : rejected_by c.args.frame k.now.unsettled ≡ Some c.in-Some.edit =
    ap (λ (x : Known). rejected_by c.args.frame x.now.unsettled) (sym c.greet.ensures)
    ∙ (ap (λ (x : Known). rejected_by c.args.frame x.now.unsettled) (sym c.self.view_is) ∙ (sym c.rejected.ensures ∙ c.in-Some.is)) in
    λ (run : Run) (others : List ℕ). error_walk run k c.greet.new.self c.reject.new.self c.pass_rejection.new.self c.args.frame others c.in-Some.edit c.requires.kind never c.greet.ensures some
    c.in_ok-reject.ensures.rejected (c.in_ok-pass_rejection.ensures.walk run)

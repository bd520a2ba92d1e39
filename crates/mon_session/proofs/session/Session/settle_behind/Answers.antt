use Rattle.std.proofs.Common.{ℕ, Bool, [], ◌∷◌, ap, sym, ◌∙◌}
use Rattle.std.proofs.lemmas.Result.{on_ok_weaker}
use Rattle.mon_report.specs.declared.line.Line.TheVariants.{Fact}
use Rattle.mon_report.specs.declared.line.What.TheVariants.{Settled}
use Rattle.mon_legal.specs.Owns.Own.{Reports}
use Rattle.mon_session.specs.Walks.{Known, takes, walks}
use Rattle.mon_session.specs.Entries.{with_now, settles}
use Rattle.mon_session.specs.Dues.{met, settled_dues}
use Rattle.mon_session.proofs.session.Session.settle_behind.Goals as goal

pub returns-clause-walk : goal.returns-clause-walk
returns-clause-walk c =
    let k : Known = c.args.self.now in
    on_ok_weaker c.tell.result
    (λ w run. w run ∙ (ap (λ (n : ℕ). takes run c.settle.new.self (Reports (Fact n c.args.edit Settled))) (ap (λ (x : Known). x.number) (c.self.view_is ∙ c.settle.ensures.settled))
    ∙ (ap (λ (x : Known). walks run x (Reports (Fact k.number c.args.edit Settled) ∷ [])) c.settle.ensures.settled
    ∙ ap (λ (b : Bool). walks run (with_now k (settles c.args.edit k.now)) (met (settled_dues k.number c.args.edit b)))
    (sym (sym c.settle.ensures.was ∙ c.if-not-settle.false)))))
    c.tell.ensures.walk

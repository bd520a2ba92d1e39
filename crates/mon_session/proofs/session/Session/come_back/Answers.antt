use Rattle.std.proofs.Common.{◌≡◌, ℕ, not, List, [], ◌++◌, Some, refl, ap, sym, ◌∙◌}
use Rattle.std.proofs.lemmas.List.{append_assoc, append-nil}
use Rattle.mon_legal.specs.Runs.{Run}
use Rattle.mon_legal.specs.Owns.Own.{From_switch}
use Rattle.mon_session.specs.declared.step.Step.{Step}
use Rattle.mon_session.specs.Now.{Now}
use Rattle.mon_session.specs.Walks.{Known, walks, steps_of}
use Rattle.mon_session.specs.Entries.{with_now}
use Rattle.mon_session.specs.Dues.{met, request_if, with_request}
use Rattle.mon_session.specs.Returning.{return_of}
use Rattle.mon_session.proofs.Arriving.{first_walk, first_steps, own_step, own_long}
use Rattle.mon_session.proofs.session.Session.come_back.Goals as goal

pub returns-clause-walk : goal.returns-clause-walk
returns-clause-walk c =
    λ (run : Run) (others : List ℕ).
    first_walk run c.args.self.now c.greet.new.self c.ask_features.new.self (From_switch c.args.frame.now others) [] refl
    (c.greet.ensures ∙ ap (λ (n : Now). with_now c.args.self.now n) (sym (own_step run c.requires.0 c.args.self.now.now c.args.frame.now others (c.args.serial, c.args.header) c.requires.1)))
    (c.in_ok-ask_features.ensures.walk run ∙ ap (λ (x : Known). walks run c.greet.new.self (met (request_if (not x.now.greeted) []))) c.self.view_is)

pub returns-clause-outs : goal.returns-clause-outs
returns-clause-outs c =
    let k : Known = c.args.self.now in
    let asked : c.ask_features.new.outs ≡ c.args.outs.now ++ steps_of k.number (met (with_request k.now [])) =
    first_steps k.number k.now [] c.args.outs.now c.args.outs.now c.ask_features.new.outs refl (sym (append-nil c.args.outs.now))
    (c.in_ok-ask_features.ensures.outs
    ∙ ap (λ (x : Known). c.args.outs.now ++ steps_of x.number (met (request_if (not c.self.inside.greeted) []))) c.greet.ensures
    ∙ ap (λ (x : Known). c.args.outs.now ++ steps_of k.number (met (request_if (not x.now.greeted) []))) c.self.view_is) in
    c.in_ok-tell_return.ensures
    ∙ (ap (λ (xs : List Step). xs ++ return_of c.self.inside.datapath c.args.frame.now (Some (c.args.serial, c.args.header))) asked
    ∙ (append_assoc c.args.outs.now (steps_of k.number (met (with_request k.now []))) (return_of c.self.inside.datapath c.args.frame.now (Some (c.args.serial, c.args.header)))
    ∙ ap (λ (x : Known). c.args.outs.now ++ (steps_of k.number (met (with_request k.now [])) ++ return_of x.now.datapath c.args.frame.now (Some (c.args.serial, c.args.header)))) c.self.view_is))

pub tell_return-requires : goal.tell_return-requires
tell_return-requires c = own_long c.requires.0 c.args.frame.now (c.args.serial, c.args.header) c.requires.1

use Rattle.std.proofs.Common.{◌∙◌, ap, refl, subst, sym}
use Rattle.std.proofs.lemmas.List.{length-map}
use Rattle.apd_unify.specs.declared.store.Cell.{Cell}
use Rattle.apd_cells.specs.Store.{term_at}
use Rattle.apd_frames.specs.Linked.{frame_in}
use Rattle.apd_frames.specs.Links.{link_of}
use Rattle.apd_past.specs.History.{History, KeepsMoments}
use Rattle.apd_following.specs.Tied.{past_of}
use Rattle.apd_tuples.specs.Tuples.{kept_tuple, kept_tuples, AreThere}
use Rattle.apd_tuples.proofs.Standing.{one_kept, one_there, there_more, tuples_same}
use Rattle.apd_tuples.proofs.Spanning.{on_err_always}
use Rattle.apd_following.proofs.following.keep_at.Goals as goal

pub returns-in_err-catch_up-clause-there : goal.returns-in_err-catch_up-clause-there
returns-in_err-catch_up-clause-there c = there_more (past_of c.args.tie.now c.args.store.now) (past_of c.catch_up.new.self c.args.store.now) c.args.spots.now c.catch_up.ensures.kept c.requires.there

pub returns-in_err-catch_up-clause-err : goal.returns-in_err-catch_up-clause-err
returns-in_err-catch_up-clause-err c =
    on_err_always c.from_residual.result _
    (tuples_same (past_of c.args.tie.now c.args.store.now) (past_of c.catch_up.new.self c.args.store.now) c.args.spots.now c.catch_up.ensures.kept c.requires.there)

pub returns-in_err-tuple-clause-there : goal.returns-in_err-tuple-clause-there
returns-in_err-tuple-clause-there c =
    subst (AreThere (past_of c.catch_up.new.self c.args.store.now)) (sym c.in_err-tuple.ensures.err)
    (there_more (past_of c.args.tie.now c.args.store.now) (past_of c.catch_up.new.self c.args.store.now) c.args.spots.now c.catch_up.ensures.kept c.requires.there)

pub returns-in_err-tuple-clause-err : goal.returns-in_err-tuple-clause-err
returns-in_err-tuple-clause-err c =
    on_err_always c.from_residual-in_err-tuple.result _
    (ap (kept_tuples (past_of c.catch_up.new.self c.args.store.now)) c.in_err-tuple.ensures.err
    ∙ tuples_same (past_of c.args.tie.now c.args.store.now) (past_of c.catch_up.new.self c.args.store.now) c.args.spots.now c.catch_up.ensures.kept c.requires.there)

pub returns-clause-there : goal.returns-clause-there
returns-clause-there c =
    subst (λ (h : History). AreThere h c.push_link.new.spots) (sym c.in_ok-catch_up.ensures.all)
    (one_there c.catch_up.new.self.journal c.args.store.now c.in_ok-catch_up.ensures.follows c.in_ok-catch_up.ensures.sound c.args.link.now.head c.args.link.now.goals.now c.requires.link.head c.requires.link.goals
    c.moment-moment.result.0 c.moment-moment.ensures c.args.fact c.requires.fact (past_of c.args.tie.now c.args.store.now) c.args.spots.now c.push_link.new.spots
    (subst (KeepsMoments (past_of c.args.tie.now c.args.store.now)) c.in_ok-catch_up.ensures.all c.catch_up.ensures.kept) c.requires.there c.in_ok-tuple.ensures.ok)

pub returns-clause-kept : goal.returns-clause-kept
returns-clause-kept c = λ F. record {
  frame = frame_in c.args.store.now (link_of c.args.link.now);
  around = F;
  is = refl;
  more = ap (λ (h : History). kept_tuples h c.push_link.new.spots) c.in_ok-catch_up.ensures.all
      ∙ one_kept c.catch_up.new.self.journal c.args.store.now c.in_ok-catch_up.ensures.follows c.in_ok-catch_up.ensures.sound c.args.link.now.head c.args.link.now.goals.now c.requires.link.head c.requires.link.goals
      c.moment-moment.result.0 c.moment-moment.ensures c.args.fact c.requires.fact (past_of c.args.tie.now c.args.store.now) c.args.spots.now c.push_link.new.spots
      (subst (KeepsMoments (past_of c.args.tie.now c.args.store.now)) c.in_ok-catch_up.ensures.all c.catch_up.ensures.kept) c.requires.there c.in_ok-tuple.ensures.ok;
  number = c.in_ok-tuple.ensures.number ∙ sym (length-map c.args.spots.now (kept_tuple (past_of c.args.tie.now c.args.store.now)));
  goals = c.in_ok-tuple.ensures.count ∙ sym (length-map c.args.link.now.goals.now (λ (a : Cell). term_at c.args.store.now a.0));
  owner = refl;
  clause = refl;
  done = refl;
}

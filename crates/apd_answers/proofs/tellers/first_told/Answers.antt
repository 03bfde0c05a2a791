use Rattle.std.proofs.Common.{get_or, subst}
use Rattle.std.specs.Prelude.{All}
use Rattle.std.proofs.lemmas.List.{take_all}
use Rattle.std.proofs.lemmas.List.Elements.{All-more}
use Rattle.apd_answers.specs.Tellers.{TellsNothing}
use Rattle.apd_answers.proofs.Telling.{told_none}
use Rattle.apd_answers.proofs.tellers.first_told.Goals as goal

pub places-preserved : goal.places-preserved
places-preserved c =
    All-more (TellsNothing c.args.pairs.now c.args.atom.now) c.args.places.now c.places.place-index 0 c.places-test.true c.places.invariant
    (told_none c.args.pairs.now c.args.atom.now (get_or c.args.places.now c.places.place-index 0) c.index-pairs-place.result c.in_ok-reply.field-0 c.index-pairs-place.is c.in_ok-reply.ensures
    c.in_default.not-Some)

pub returns : goal.returns
returns c =
    subst (All (TellsNothing c.args.pairs.now c.args.atom.now)) (take_all c.places.place-index c.args.places.now c.places-test.false) c.places.invariant

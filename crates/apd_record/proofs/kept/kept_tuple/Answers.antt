use Rattle.std.proofs.Common.{◌∙◌, sym}
use Rattle.std.proofs.lemmas.Option.{get_or_from_slice_get}
use Rattle.apd_record.specs.Kept.{no_tuple}
use Rattle.apd_record.proofs.kept.kept_tuple.Goals as goal

pub returns : goal.returns
returns c = sym (get_or_from_slice_get c.args.kept.now c.args.number c.in-Some.tuple no_tuple (sym (sym c.in-Some.is ∙ c.in_ok-get.ensures)))

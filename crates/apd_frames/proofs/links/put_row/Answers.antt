use Rattle.std.proofs.Common.{ap}
use Rattle.std.specs.Prelude.{slice_set}
use Rattle.apd_frames.specs.Links.{put_row}
use Rattle.apd_frames.proofs.Spans.{row_read}
use Rattle.apd_frames.proofs.links.put_row.Goals as goal

pub returns : goal.returns
returns c = λ r e. ap (λ x. slice_set c.args.rows.now.items c.args.place (put_row x c.args.done c.args.point)) (row_read c.args.rows.now.items c.args.place c.index_mut-row.result.now r c.index_mut-row.ensures.value e)

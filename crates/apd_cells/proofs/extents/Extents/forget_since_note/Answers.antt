use Rattle.std.proofs.Common.{refl}
use Rattle.apd_cells.proofs.Recent.{recent_undone, sized_undone}
use Rattle.apd_cells.proofs.extents.Extents.forget_since_note.Goals as goal

pub returns : goal.returns
returns c = λ s e h. record {
  kept = sized_undone s s.trail c.args.notes c.args.self.now.ground_terms c.args.self.now.open_terms c.forget_since.new.known c.forget_since-2.new.known
      refl e c.forget_since.ensures c.forget_since-2.ensures h.kept;
  lately = recent_undone s s.trail c.args.notes c.args.self.now.recent c.forget_recent.new.recent refl e c.forget_recent.ensures h.lately;
}

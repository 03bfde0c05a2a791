use Rattle.std.proofs.Common.{◌∷◌, ◌∙◌, ap, length}
use Rattle.apd_cells.specs.declared.known.KnownExtent.{KnownExtent}
use Rattle.apd_cells.proofs.Recent.{recent_one, recent_room}
use Rattle.apd_cells.proofs.extents.Extents.remember.Goals as goal

pub returns : goal.returns
returns c = λ s x since h. record {
  kept = h.kept;
  lately = recent_one s (record { cell = c.args.cell; extent = c.args.extent; since = c.args.since }) c.forget_many.new.recent c.push.new.self
      x since (c.in_ok-push.ensures.ok ∙ ap (λ (k : KnownExtent). k ∷ c.forget_many.new.recent) c.in-Some.ensures)
      (recent_room s (length s.trail) c.args.self.now.recent c.forget_many.new.recent c.forget_many.ensures h.lately);
}

use Rattle.std.proofs.Common.{◌∷◌, ◌∙◌, ap, refl}
use Rattle.apd_cells.specs.declared.known.KnownExtent.{KnownExtent}
use Rattle.apd_cells.proofs.Sizing.{sized_ground, sized_open}
use Rattle.apd_cells.proofs.extents.Extents.keep.Goals as goal

pub returns-then-extent-eq0 : goal.returns-then-extent-eq0
returns-then-extent-eq0 c = λ s x since h. record {
  kept = sized_ground s (record { cell = c.args.cell; extent = c.args.extent; since = c.args.since }) c.args.self.now.ground_terms c.args.self.now.open_terms c.push.new.self
      x since c.if-extent-eq0.true (c.in_ok-push.ensures.ok ∙ ap (λ (k : KnownExtent). k ∷ c.args.self.now.ground_terms) c.in-Some.ensures) h.kept;
  lately = h.lately;
}

pub returns : goal.returns
returns c = λ s x since h. record {
  kept = sized_open s (record { cell = c.args.cell; extent = record { size = c.args.extent.size; above = c.above_all-above.result }; since = c.args.since }) c.args.extent
      c.args.self.now.ground_terms c.args.self.now.open_terms c.push-2.new.self
      x since refl c.above_all-above.ensures.more (c.above_all-above.ensures.all s) (c.in_ok-push-2.ensures.ok ∙ ap (λ (k : KnownExtent). k ∷ c.args.self.now.open_terms) c.in-Some-of.ensures) h.kept;
  lately = h.lately;
}

use Rattle.std.proofs.Common.{◌∙◌, ap, arith, refl}
use Rattle.apd_past.specs.Done.{Done}
use Rattle.apd_past.proofs.Variables.{more_variables}
use Rattle.apd_past.proofs.spans.Spans.add_variables.Goals as goal

pub loop-symbol-preserved : goal.loop-symbol-preserved
loop-symbol-preserved c = record {
  count = more_variables c.args.self.now.variables c.args.symbols.now c.loop-symbol.symbol-index _ c.loop-symbol.self.variables c.add_variable_of.new.self.variables
      c.loop-symbol-test.true refl c.loop-symbol.invariant.count (ap (λ (d : Done). d.variables) c.in_ok-add_variable_of.ensures.ok);
  moments = c.add_variable_of.ensures.moments ∙ c.loop-symbol.invariant.moments;
  spans = c.add_variable_of.ensures.spans ∙ c.loop-symbol.invariant.spans;
  more = omega (arith, c.add_variable_of.ensures.more, c.loop-symbol.invariant.more);
}

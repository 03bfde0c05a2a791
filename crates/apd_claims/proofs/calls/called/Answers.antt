use Rattle.std.proofs.Common.{None, ap, ◌∙◌}
use Rattle.std.specs.Option.{option_map}
use Rattle.apd_lines.proofs.Growing.{Grown-more}
use Rattle.apd_claims.specs.Claims.{call_entry}
use Rattle.apd_parts.specs.Parts.{if_some}
use Rattle.apd_claims.specs.Reading.{term_in}
use Rattle.apd_claims.proofs.Naming.{calls-named}
use Rattle.apd_claims.proofs.calls.called.Goals as goal

pub returns-in_err-caller-clause-names : goal.returns-in_err-caller-clause-names
returns-in_err-caller-clause-names c = Grown-more c.args.names.now c.read_term.new.names c.read_term-2.new.names c.read_term.ensures.names c.read_term-2.ensures.names

pub returns-clause-names : goal.returns-clause-names
returns-clause-names c = Grown-more c.args.names.now c.read_term.new.names c.read_term-2.new.names c.read_term.ensures.names c.read_term-2.ensures.names

pub returns-in_err-caller-clause-few : goal.returns-in_err-caller-clause-few
returns-in_err-caller-clause-few c = λ l. c.read_term-2.ensures.few (c.read_term.ensures.few l)

pub returns-clause-few : goal.returns-clause-few
returns-clause-few c = λ l. c.read_term-2.ensures.few (c.read_term.ensures.few l)

pub returns-clause-entry : goal.returns-clause-entry
returns-clause-entry c = λ n grew reader.
    c.entry_of.ensures
    ∙ ap (λ o. if_some o (λ q. option_map (call_entry c.args.calling c.args.led.now.number q) c.in_ok-caller.caller) None)
    (c.in_ok-callee.ensures.read n (Grown-more c.read_term.new.names c.read_term-2.new.names n c.read_term-2.ensures.names grew) reader)
    ∙ ap (λ o. if_some (term_in reader c.args.means.now.ops.now c.args.call.now) (λ q. option_map (call_entry c.args.calling c.args.led.now.number q) o) None)
    (c.in_ok-caller.ensures.read n grew reader)

pub returns-clause-named : goal.returns-clause-named
returns-clause-named c = rw c.entry_of.ensures
    (calls-named c.read_term.new.names c.read_term-2.new.names c.args.calling c.args.led.now.number c.in_ok-callee.callee c.in_ok-caller.caller
    c.read_term-2.ensures.names c.count-count.ensures.standard c.in_ok-callee.ensures.named c.in_ok-caller.ensures.named)

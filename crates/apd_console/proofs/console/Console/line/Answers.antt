use Rattle.std.proofs.Common.{ap, ◌∙◌, Ok, Err, true, false}
use Rattle.apd_console.specs.Console.{HearsEnd, Kept}
use Rattle.apd_console.specs.Draft.{TakesPart}
use Rattle.apd_console.specs.declared.line.LineEnd.TheVariants.{Memory}
use Rattle.apd_console.proofs.Bytes.{going}
use Rattle.apd_console.specs.Lines.{HasNewline}
use Rattle.apd_console.proofs.Waiting.{no_newline_taken, still}
use Rattle.apd_console.proofs.Drafting.{adds, ends-line, ends-last, ends-none, ends-memory, ends-with}
use Rattle.apd_console.proofs.console.Console.line.Goals as goal

pub returns-in-Ok-true-take_part-clause-line : goal.returns-in-Ok-true-take_part-clause-line
returns-in-Ok-true-take_part-clause-line g c =
    let some = c.in-Ok-true.ensures.some (ap Ok c.in-Ok-true.field-0-test) in
    let part : TakesPart c.more.new.self c.take_part.new.self c.parts.draft c.take_part.new.draft true = rw c.in-Ok-true-take_part.field-0-test at c.in-Ok-true-take_part.ensures.part in
    ends-line _ c.parts.self c.more.new.self _ _ (g.S.Source.left c.parts.source) _ c.parts.draft c.take_part.new.draft _ c.take_part.ensures.sound c.parts.invariant.0 c.more.ensures.hands c.in-Ok-true.ensures.on_time
    (going _ c.more.ensures.sound some) part c.into_line.ensures

pub parts-preserved : goal.parts-preserved
parts-preserved g c =
    let some = c.in-Ok-true.ensures.some (ap Ok c.in-Ok-true.field-0-test) in
    let part : TakesPart c.more.new.self c.take_part.new.self c.parts.draft c.take_part.new.draft false = rw c.in-Ok-false-take_part.field-0-test at c.in-Ok-false-take_part.ensures.part in (
      adds _ c.parts.self c.more.new.self _ _ (g.S.Source.left c.parts.source) _ c.parts.draft _ c.parts.invariant.0 c.more.ensures.hands c.in-Ok-true.ensures.on_time (going _ c.more.ensures.sound some) part,
      c.in-Ok-true.ensures.cause ∙ c.parts.invariant.1,
      λ newline.
          let now = still c.args.self.now c.parts.self c.more.new.self c.args.source.now c.parts.source c.more.new.source c.parts.invariant.2 c.more.ensures.waits newline in
          let here : HasNewline c.more.new.self.kept = rw now.1 newline in
          absurd (no_newline_taken _ _ _ _ part here),
    )

pub returns-in-Err-take_part-clause-line : goal.returns-in-Err-take_part-clause-line
returns-in-Err-take_part-clause-line g c =
    let kept : HearsEnd c.args.self.now c.more.new.self (g.S.Source.left c.args.source.now) (g.S.Source.left c.more.new.source) Memory =
    ends-memory _ c.parts.self c.more.new.self _ (g.S.Source.left c.parts.source) _ c.parts.draft c.more.ensures.sound c.parts.invariant.0 c.more.ensures.hands c.more.ensures.late in
    rw c.in-Err-take_part.ensures.part kept

pub returns-then-is_begun-clause-line : goal.returns-then-is_begun-clause-line
returns-then-is_begun-clause-line g c =
    let over = c.in-Ok-false.ensures.over (ap Ok c.in-Ok-false.field-0-test) in
    ends-last _ c.parts.self _ _ (g.S.Source.left c.parts.source) _ c.parts.draft _ c.more.ensures.sound c.parts.invariant.0 c.more.ensures.hands c.in-Ok-false.ensures.on_time over.0 c.into_line-then-is_begun.ensures
    (c.is_begun.ensures.begun c.if-is_begun.true)

pub returns-in-Ok-false-clause-line : goal.returns-in-Ok-false-clause-line
returns-in-Ok-false-clause-line g c =
    let over = c.in-Ok-false.ensures.over (ap Ok c.in-Ok-false.field-0-test) in
    ends-none _ c.parts.self _ _ (g.S.Source.left c.parts.source) _ c.parts.draft c.more.ensures.sound c.parts.invariant.0 c.more.ensures.hands c.more.ensures.late over.0 over.1 (c.is_begun.ensures.none c.if-is_begun.false)

pub returns-in-Err-clause-line : goal.returns-in-Err-clause-line
returns-in-Err-clause-line g c =
    let e = c.in-Err.ensures in
    ends-with _ c.parts.self _ _ (g.S.Source.left c.parts.source) _ c.parts.draft _ c.more.ensures.sound c.parts.invariant.0 c.more.ensures.hands e.late e.none e.going (λ is. e.limit (ap Err is)) (λ is. e.below (ap Err is)) e.only

pub returns-in-Ok-true-take_part-clause-waits : goal.returns-in-Ok-true-take_part-clause-waits
returns-in-Ok-true-take_part-clause-waits g c newline =
    let now = still c.args.self.now c.parts.self c.more.new.self c.args.source.now c.parts.source c.more.new.source c.parts.invariant.2 c.more.ensures.waits newline in
    let part : TakesPart c.more.new.self c.take_part.new.self c.parts.draft c.take_part.new.draft true = rw c.in-Ok-true-take_part.field-0-test at c.in-Ok-true-take_part.ensures.part in
    (now.0, part.taken ∙ ap (λ (k : Kept). k.taken) now.1)

pub returns-in-Err-take_part-clause-waits : goal.returns-in-Err-take_part-clause-waits
returns-in-Err-take_part-clause-waits g c newline =
    let now = still c.args.self.now c.parts.self c.more.new.self c.args.source.now c.parts.source c.more.new.source c.parts.invariant.2 c.more.ensures.waits newline in
    (now.0, ap (λ (k : Kept). k.taken) (c.in-Err-take_part.ensures.part ∙ now.1))

pub returns-then-is_begun-clause-waits : goal.returns-then-is_begun-clause-waits
returns-then-is_begun-clause-waits g c newline =
    let now = still c.args.self.now c.parts.self c.more.new.self c.args.source.now c.parts.source c.more.new.source c.parts.invariant.2 c.more.ensures.waits newline in
    (now.0, ap (λ (k : Kept). k.taken) now.1)

pub returns-in-Ok-false-clause-waits : goal.returns-in-Ok-false-clause-waits
returns-in-Ok-false-clause-waits g c newline =
    let now = still c.args.self.now c.parts.self c.more.new.self c.args.source.now c.parts.source c.more.new.source c.parts.invariant.2 c.more.ensures.waits newline in
    (now.0, ap (λ (k : Kept). k.taken) now.1)

pub returns-in-Err-clause-waits : goal.returns-in-Err-clause-waits
returns-in-Err-clause-waits g c newline =
    let now = still c.args.self.now c.parts.self c.more.new.self c.args.source.now c.parts.source c.more.new.source c.parts.invariant.2 c.more.ensures.waits newline in
    (now.0, ap (λ (k : Kept). k.taken) now.1)

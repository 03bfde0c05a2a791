use Rattle.std.proofs.Common.{ap, sym, refl, rules, take, true, ◌∙◌, ◌+◌}
use Rattle.apd_console.specs.Console.{Kept}
use Rattle.apd_console.proofs.Bytes.{Hands-read, late_read, on_time_read, replaced}
use Rattle.apd_console.proofs.console.Console.fill.Goals as goal

pub returns-in-Ok-clause-hands : goal.returns-in-Ok-clause-hands
returns-in-Ok-clause-hands g c =
    let read = c.in-Ok.ensures in
    let was = c.self.view_is in
    Hands-read c.args.self.now _ (g.S.Source.left c.args.source.now) (g.S.Source.left c.read_some.new.source) c.read_some.new.chunk c.in-Ok.count
    (sym (ap (λ (k : Kept). k.ended) was) ∙ c.if-self.false) c.requires (ap (take c.in-Ok.count) (replaced c.self.inside.chunk.len c.read_some.new.chunk _ (search rules))) (ap (λ (k : Kept). k.taken + c.in-Ok.count) was) refl
    read.within read.bytes read.taken read.end

pub returns-in-Ok-clause-on_time : goal.returns-in-Ok-clause-on_time
returns-in-Ok-clause-on_time g c =
    on_time_read c.args.self.now.ended _ _ (g.S.Source.left c.args.source.now) (g.S.Source.left c.read_some.new.source) (sym (ap (λ (k : Kept). k.ended) c.self.view_is) ∙ c.if-self.false) refl c.in-Ok.ensures.late

pub returns-in-Ok-clause-late : goal.returns-in-Ok-clause-late
returns-in-Ok-clause-late g c =
    late_read c.args.self.now.ended _ (g.S.Source.left c.args.source.now) (g.S.Source.left c.read_some.new.source) (sym (ap (λ (k : Kept). k.ended) c.self.view_is) ∙ c.if-self.false) c.in-Ok.ensures.late

pub returns-in-Err-clause-late : goal.returns-in-Err-clause-late
returns-in-Err-clause-late g c =
    late_read c.args.self.now.ended true (g.S.Source.left c.args.source.now) (g.S.Source.left c.read_some.new.source) (sym (ap (λ (k : Kept). k.ended) c.self.view_is) ∙ c.if-self.false) c.in-Err.ensures.late

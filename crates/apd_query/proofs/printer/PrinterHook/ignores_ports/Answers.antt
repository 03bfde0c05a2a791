use Rattle.std.proofs.Common.{refl, sym}
use Rattle.std.proofs.lemmas.Bool.{OnTrue_at, OnTrue_from}
use Rattle.apd_query.proofs.Printing.{prints_nothing}
use Rattle.apd_query.proofs.printer.PrinterHook.ignores_ports.Goals as goal

pub returns : goal.returns
returns g c = OnTrue_from c.admits_nothing.result _ (λ is e.
    let nothing = OnTrue_at is c.admits_nothing.ensures.nothing e in (
      refl,
      refl,
      refl,
      refl,
      sym nothing.1,
      prints_nothing c.args.self.now.voice.now.log.ops c.args.self.now.voice.now.log.names c.args.self.now.vars.now c.args.self.now.admit.now _ c.args.self.now.answers e nothing.0,
      refl,
    ))

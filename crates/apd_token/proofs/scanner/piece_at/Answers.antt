use Rattle.std.proofs.Common.{refl, ap, sym, ◌∙◌, arith}
use Rattle.apd_token.specs.declared.bytes.Class.TheVariants as classes
use Rattle.apd_token.specs.declared.bytes.Set.TheVariants as sets
use Rattle.apd_token.specs.declared.found.Found.TheVariants.{Item}
use Rattle.apd_token.proofs.Pieces.{run_scans, alone_scans}
use Rattle.apd_token.proofs.scanner.piece_at.Goals as goal

pub returns-in-Percent : goal.returns-in-Percent
returns-in-Percent c = let run = c.run_end.ensures in
    run_scans classes.Percent sets.Line _ _ _ _ (omega arith) run.within (sym c.class_of.ensures ∙ c.in-Percent.is) (refl, run.each) (λ v cs rest f. f.1) run.stops

pub returns-in-Small : goal.returns-in-Small
returns-in-Small c = let run = c.run_end-in-Small.ensures in
    run_scans classes.Small sets.Word _ _ _ _ (omega arith) run.within (sym c.class_of.ensures ∙ c.in-Small.is) (refl, run.each) (λ v cs rest f. f.1) run.stops

pub returns-in-Capital : goal.returns-in-Capital
returns-in-Capital c = let run = c.run_end-in-Capital.ensures in
    run_scans classes.Capital sets.Word _ _ _ _ (omega arith) run.within (sym c.class_of.ensures ∙ c.in-Capital.is) (refl, run.each) (λ v cs rest f. f.1) run.stops

pub returns-in-Layout : goal.returns-in-Layout
returns-in-Layout c = alone_scans classes.Layout _ _ _ c.requires.within (sym c.class_of.ensures ∙ c.in-Layout.is) (refl, refl) (λ v cs rest f. f.1)

pub returns-in-Solo : goal.returns-in-Solo
returns-in-Solo c = alone_scans classes.Solo _ _ _ c.requires.within (sym c.class_of.ensures ∙ c.in-Solo.is) (refl, refl) (λ v cs rest f. f.1)

pub returns-in-Other : goal.returns-in-Other
returns-in-Other c = alone_scans classes.Other _ _ _ c.requires.within (sym c.class_of.ensures ∙ c.in-Other.is) (refl, refl) (λ v cs rest f. f.1)

pub returns-in-Bracket : goal.returns-in-Bracket
returns-in-Bracket c = alone_scans classes.Bracket _ _ _ c.requires.within (sym c.class_of.ensures ∙ c.in-Bracket.is) (ap Item c.bracket_of.ensures, refl) (λ v cs rest f. f.1)

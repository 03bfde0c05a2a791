use Rattle.std.proofs.Common.{subst, sym}
use Rattle.apd_term.specs.Term.{IsTerms}
use Rattle.apd_cells.proofs.Written.{IsTerms-drop, IsTerms-spell}
use Rattle.apd_frames.proofs.Instancing.{laid_self, laid_shared}
use Rattle.apd_frames.proofs.floor.lay_term.Goals as goal

pub term_end-end-requires-clause-whole : goal.term_end-end-requires-clause-whole
term_end-end-requires-clause-whole c =
    IsTerms-drop c.args.from c.symbols-symbols.result.now (subst IsTerms (sym c.symbols-symbols.ensures) (IsTerms-spell c.args.atom.now))

pub piece_at-requires-clause-whole : goal.piece_at-requires-clause-whole
piece_at-requires-clause-whole c =
    IsTerms-drop c.args.from c.symbols-symbols.result.now (subst IsTerms (sym c.symbols-symbols.ensures) (IsTerms-spell c.args.atom.now))

pub returns-then-from-symbols : goal.returns-then-from-symbols
returns-then-from-symbols c = laid_self c.args.store.now

pub returns-then-not-is_ground : goal.returns-then-not-is_ground
returns-then-not-is_ground c = laid_self c.args.store.now

pub returns : goal.returns
returns c = laid_shared c.args.store.now c.share.new.self c.in_ok-cell.ensures.shared c.in_ok-cell.ensures.kept

use Rattle.std.proofs.Common.{◌≡◌, ◌∷◌, ◌∙◌, drop, sym, subst}
use Rattle.apd_frames.specs.Linked.{frames_at}
use Rattle.apd_frames.proofs.Moving.{branch_inside, restores_framed, restores_saved, restores_current, then_framed, then_saved, then_some}
use Rattle.apd_frames.proofs.linked.Linked.restore.Goals as goal

pub keep-requires : goal.keep-requires
keep-requires c = (branch_inside c.args.self.now.store c.take_back.new.links c.args.self.now.innermost c.take_back.new.notes (drop 1 c.take_back.new.notes) c.in-Some.branch (then_framed c.args.self.now.store c.args.self.now.links c.take_back.new.links c.args.self.now.innermost c.args.self.now.notes c.take_back.new.notes c.requires.framed c.take_back.ensures.links c.take_back.ensures.notes)
    c.in-Some.ensures.branch).1

pub go_back-requires-clause-there : goal.go_back-requires-clause-there
go_back-requires-clause-there c = (branch_inside c.args.self.now.store c.take_back.new.links c.args.self.now.innermost c.take_back.new.notes (drop 1 c.take_back.new.notes) c.in-Some.branch (then_framed c.args.self.now.store c.args.self.now.links c.take_back.new.links c.args.self.now.innermost c.args.self.now.notes c.take_back.new.notes c.requires.framed c.take_back.ensures.links c.take_back.ensures.notes)
    c.in-Some.ensures.branch).0

pub unreachable-requires : goal.unreachable-requires
unreachable-requires c = then_some c.args.self.now.store c.args.self.now.links c.args.self.now.notes c.requires.some (sym c.take_back.ensures.notes ∙ c.in-None.ensures.branch)

pub returns-clause-framed : goal.returns-clause-framed
returns-clause-framed c =
    restores_framed c.args.kept c.args.self.now.store c.go_back.new.self c.take_back.new.links c.keep.new.self c.args.self.now.innermost c.take_back.new.notes (drop 1 c.take_back.new.notes) c.in-Some.branch (then_framed c.args.self.now.store c.args.self.now.links c.take_back.new.links c.args.self.now.innermost c.args.self.now.notes c.take_back.new.notes c.requires.framed c.take_back.ensures.links c.take_back.ensures.notes)
    c.in-Some.ensures.branch c.go_back.ensures.sound c.go_back.ensures.undone c.keep.ensures

pub returns-clause-saved : goal.returns-clause-saved
returns-clause-saved c =
    restores_saved c.args.kept c.args.self.now.store c.go_back.new.self c.take_back.new.links c.keep.new.self c.args.self.now.innermost c.take_back.new.notes (drop 1 c.take_back.new.notes) c.in-Some.branch (then_framed c.args.self.now.store c.args.self.now.links c.take_back.new.links c.args.self.now.innermost c.args.self.now.notes c.take_back.new.notes c.requires.framed c.take_back.ensures.links c.take_back.ensures.notes)
    c.in-Some.ensures.branch c.go_back.ensures.sound c.go_back.ensures.undone c.keep.ensures
    ∙ then_saved c.args.self.now.store c.args.self.now.links c.take_back.new.links c.args.self.now.notes c.take_back.new.notes c.take_back.ensures.links c.take_back.ensures.notes

pub returns-clause-current : goal.returns-clause-current
returns-clause-current c =
    subst (λ S. S ≡ frames_at c.go_back.new.self c.keep.new.self c.in-Some.branch.innermost ∷ drop 1 S)
    (then_saved c.args.self.now.store c.args.self.now.links c.take_back.new.links c.args.self.now.notes c.take_back.new.notes c.take_back.ensures.links c.take_back.ensures.notes)
    (restores_current c.args.kept c.args.self.now.store c.go_back.new.self c.take_back.new.links c.keep.new.self c.args.self.now.innermost c.take_back.new.notes (drop 1 c.take_back.new.notes) c.in-Some.branch (then_framed c.args.self.now.store c.args.self.now.links c.take_back.new.links c.args.self.now.innermost c.args.self.now.notes c.take_back.new.notes c.requires.framed c.take_back.ensures.links c.take_back.ensures.notes)
    c.in-Some.ensures.branch c.go_back.ensures.sound c.go_back.ensures.undone c.keep.ensures)

pub returns-clause-store : goal.returns-clause-store
returns-clause-store c = (
  c.in-Some.branch.mark.0,
  (branch_inside c.args.self.now.store c.take_back.new.links c.args.self.now.innermost c.take_back.new.notes (drop 1 c.take_back.new.notes) c.in-Some.branch (then_framed c.args.self.now.store c.args.self.now.links c.take_back.new.links c.args.self.now.innermost c.args.self.now.notes c.take_back.new.notes c.requires.framed c.take_back.ensures.links c.take_back.ensures.notes)
      c.in-Some.ensures.branch).0,
  c.go_back.ensures.undone,
)

use Rattle.std.proofs.Common.{refl, length, subst}
use Rattle.apd_cells.specs.First.{AreClashing, key_of}
use Rattle.apd_cells.specs.Store.{term_at}
use Rattle.apd_unify.proofs.Beginning.{apart_keys}
use Rattle.apd_frames.specs.Framed.{frames_of}
use Rattle.apd_frames.proofs.Moving.{enters_no}
use Rattle.apd_frames.proofs.linked.Linked.key.Goals as goal

pub key-requires : goal.key-requires
key-requires c = c.in-Some.ensures.0 (length c.args.self.now.store.cells) c.requires.placed

pub returns-in-Some : goal.returns-in-Some
returns-in-Some c = λ g r n m clashing.
    (enters_no c.args.self.now.store c.args.self.now.links c.args.self.now.innermost c.args.self.now.notes (frames_of c.args.self.now) refl c.requires g r n m
    c.in-Some.goal c.in-Some.ensures
    (apart_keys (term_at c.args.self.now.store c.in-Some.goal.0) r.head (subst (λ k. AreClashing k (key_of r.head)) c.key.ensures clashing))).0

use Rattle.std.proofs.Common.{◌∷◌, ◌∙◌, [], length, map, refl, sym, ap, subst, arith}
use Rattle.std.specs.List.{flat_map}
use Rattle.apd_term.specs.Term.{variables, IsAmong}
use Rattle.apd_term.proofs.Among.{IsAmong-left, IsAmong-right}
use Rattle.apd_cells.specs.Store.{Keeps}
use Rattle.apd_cells.specs.Stored.{Stored}
use Rattle.apd_cells.proofs.Keeping.{Keeps-trans}
use Rattle.apd_unify.specs.Cells.{AreCells}
use Rattle.apd_frames.specs.Links.{Instance, Link}
use Rattle.apd_frames.specs.Instances.{terms_in, raised_in}
use Rattle.apd_frames.proofs.Instancing.{inside_new}
use Rattle.apd_frames.proofs.Moving.{opened, opened_framed}
use Rattle.apd_frames.proofs.instance.put_query.Goals as goal

pub load-requires : goal.load-requires
load-requires c = λ v o. c.requires.small v (IsAmong-left (variables c.args.tuple.now.head) (flat_map variables c.args.tuple.now.body) v o)

pub load_all-requires : goal.load_all-requires
load_all-requires c = λ v o.
    c.requires.small v (IsAmong-right (variables c.args.tuple.now.head) (flat_map variables c.args.tuple.now.body) v (subst (λ xs. IsAmong (flat_map variables xs) v) c.as_slice.ensures o))

pub returns-clause-framed : goal.returns-clause-framed
returns-clause-framed c =
    let i : Instance = record { head = c.in_ok-head.head; goals = c.as_slice-2.result.now } in
    let l : Link = record { box_no = 0; depth = 0; clause = 0; instance = i; done = 0; point = 0; around = 0 } in
    let h = inside_new c.args.store.now c.load.new.self c.args.tuple.now.head 0 c.in_ok-head.head.0 c.in_ok-head.ensures.ok c.in_ok-head.ensures.cell in
    opened_framed c.load_all.new.store l c.push.new.self [] (c.in_ok-push.ensures.ok ∙ ap (λ ls. l ∷ ls) c.requires.links) refl refl
    (record { head = omega (arith, h, c.load_all.ensures.grown.cells); goals = subst (AreCells (length c.load_all.new.store.cells)) (sym c.as_slice-2.ensures.value) c.in_ok-load_all.ensures.inside })

pub returns-clause-frames : goal.returns-clause-frames
returns-clause-frames c =
    let i : Instance = record { head = c.in_ok-head.head; goals = c.as_slice-2.result.now } in
    let l : Link = record { box_no = 0; depth = 0; clause = 0; instance = i; done = 0; point = 0; around = 0 } in
    let h = inside_new c.args.store.now c.load.new.self c.args.tuple.now.head 0 c.in_ok-head.head.0 c.in_ok-head.ensures.ok c.in_ok-head.ensures.cell in
    opened c.args.store.now c.load.new.self c.load_all.new.store c.args.tuple.now c.in_ok-head.head.0 i c.requires.store
    c.in_ok-head.ensures.ok h c.in_ok-head.ensures.made c.load_all.ensures.grown
    (ap (terms_in c.load_all.new.store) c.as_slice-2.ensures.value ∙ c.in_ok-load_all.ensures.made ∙ ap (map (raised_in c.load.new.self 0)) c.as_slice.ensures) refl
    l c.push.new.self (c.in_ok-push.ensures.ok ∙ ap (λ ls. l ∷ ls) c.requires.links) refl

pub returns-clause-begun : goal.returns-clause-begun
returns-clause-begun c =
    let none : Stored = record { cells = []; variables = 0; trail = [] } in
    (Keeps-trans none c.load.new.self c.load_all.new.store (subst (λ s. Keeps s c.load.new.self) c.requires.store c.in_ok-head.ensures.kept) c.load_all.ensures.grown.kept).1

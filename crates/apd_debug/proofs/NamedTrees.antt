-- What a tree is made of is named, and what is left of it.
use Rattle.std.proofs.Common.{◌≡◌, ℕ, zero, suc, ◌+◌, ◌==◌, ◌≤◌, List, [], ◌∷◌, ◌++◌, Bool, true, false, Option, Some, None, subst}
use Rattle.std.specs.Prelude.{if◌then◌else◌, slice_get}
use Rattle.std.specs.Option.{unwrap_or, option_or}
use Rattle.apd_term.specs.Term.{Term, Terms, variable, integer, compound, none, more}
use Rattle.apd_term.specs.Canonical.{canonical}
use Rattle.apd_term.specs.Matching.{opposite, opposite_among, matching}
use Rattle.apd_term.specs.Named.{IsNamed, AreNamed, AllNamed, TupleIsNamed, AllTuplesNamed}
use Rattle.apd_term.specs.Tuple.{canonical_tuple}
use Rattle.apd_term.specs.declared.instance.Instance.{Instance}
use Rattle.apd_term.specs.declared.tuple.Tuple.{Tuple}
use Rattle.apd_term.proofs.Named.{TupleIsNamed-more, TupleIsNamed-apply, IsNamed-canonical, TupleIsNamed-canonical}
use Rattle.apd_ports.specs.declared.event.Event.{Event}
use Rattle.apd_ports.specs.declared.event.Port.{Port}
use Rattle.apd_ports.specs.declared.event.Port.TheVariants.{Call, Exit, Redo, Fail}
use Rattle.apd_ports.specs.declared.point.Point.{Point}
use Rattle.apd_record.specs.Recorded.{Recorded, is_user_atom, empty, noted, passed_at}
use Rattle.apd_record.specs.declared.rows.BoxRow.{BoxRow}
use Rattle.apd_record.specs.Reading.{no_point, point_of, exits_to}
use Rattle.apd_record.proofs.Shaped.{mapped}
use Rattle.apd_trace.specs.declared.item.Item.{Item}
use Rattle.apd_trace.specs.declared.item.Item.TheVariants.{Passed, Answer, Made, Error}
use Rattle.apd_trace.specs.Named.{AllItemsNamed, ItemIsNamed}
use Rattle.apd_trace.specs.Run.{query_run}
use Rattle.apd_trace.specs.Trace.{trace}
use Rattle.apd_trace.proofs.Named.{trace_named, passed-named}
use Rattle.apd_recorded.specs.Told.{told, told_port, record_from, record_of}
use Rattle.apd_divide.specs.declared.node.Standing.{Standing}
use Rattle.apd_divide.specs.declared.node.Standing.TheVariants.{Open, Cleared, Doubted}
use Rattle.apd_divide.specs.declared.node.Verdict.{Verdict}
use Rattle.apd_divide.specs.declared.node.Verdict.TheVariants as verdicts
use Rattle.apd_divide.specs.Tree.{Tree, Forest, node, bare, beside, marked, doubts, doubts_of}
use Rattle.apd_divide.specs.Choice.{Cut, Among, Way, at_node, cut, cut_among, judged}
use Rattle.apd_divide.specs.Recorded.{renamed_apart, instance_with, nodes_for, tree_in, tree}
use Rattle.apd_divide.proofs.Weights.{stopped, down, along, found}
use Rattle.apd_debug.specs.NamedTrees.{HoldsInTree, HoldsInForest, TreeIsNamed, InstancesAreNamed, AllPointsNamed, AllBoxesNamed, RecordIsNamed}

-- the instances of nodes beside each other are named
abbrev pub ForestIsNamed : ℕ → Forest → Type 0
ForestIsNamed n ts = HoldsInForest (TupleIsNamed n) ts

-- among more names

mutual
  pub TreeIsNamed-more : (n m : ℕ) (x : Tree) → n ≤ m → TreeIsNamed n x → TreeIsNamed m x
  TreeIsNamed-more n m (node s c t ts) less named = (TupleIsNamed-more n m t less named.0, ForestIsNamed-more n m ts less named.1)

  ForestIsNamed-more : (n m : ℕ) (ts : Forest) → n ≤ m → ForestIsNamed n ts → ForestIsNamed m ts
  ForestIsNamed-more n m bare less named = tt
  ForestIsNamed-more n m (beside x xs) less named = (TreeIsNamed-more n m x less named.0, ForestIsNamed-more n m xs less named.1)

-- what a cut leaves of what holds in a tree

module _ (Q : Tuple → Type 0) where
  marked-holds : (v : Standing) (x : Tree) → HoldsInTree Q x → HoldsInTree Q (marked v x)
  marked-holds v (node s c t ts) holds = holds

  abbrev pub HoldsInCut : Cut → Type 0
  HoldsInCut c = HoldsInTree Q c.chosen × ((v : Standing) → HoldsInTree Q (c.rest v))

  abbrev HoldsAmong : Among → Type 0
  HoldsAmong a = HoldsInTree Q a.chosen × ((v : Standing) → HoldsInForest Q (a.rest v))

  mutual
    pub cut-holds : (way : Way) (x : Tree) (c : Cut) → cut way x ≡ Some c → HoldsInTree Q x → HoldsInCut c
    cut-holds way (node s k t ts) c e holds =
        let m = mapped (at_node (node s k t)) (cut_among way ts) c e in
        let a = cut_among-holds way ts m.0 m.1 holds.1 in
        subst HoldsInCut m.2 (a.0, λ v. (holds.0, a.1 v))

    cut_among-holds : (way : Way) (ts : Forest) (a : Among) → cut_among way ts ≡ Some a → HoldsInForest Q ts → HoldsAmong a
    cut_among-holds way bare a e holds = absurd (cc)
    cut_among-holds way (beside x xs) a e holds = elim (found way x xs a e) [
      | stopped t s f ↦ subst HoldsAmong f (holds.0, λ v. (marked-holds v x holds.0, holds.1))
      | down t s c g f ↦ let k = cut-holds way x c g holds.0 in subst HoldsAmong f (k.0, λ v. (k.1 v, holds.1))
      | along t b g f ↦ let k = cut_among-holds way xs b g holds.1 in subst HoldsAmong f (k.0, λ v. (holds.0, k.1 v))
    ]

  pub judged-holds : (c : Cut) (value : Verdict) → HoldsInCut c → HoldsInTree Q (judged c value)
  judged-holds c verdicts.True holds = holds.1 Cleared
  judged-holds c verdicts.False holds = holds.0
  judged-holds c verdicts.Unknown holds = holds.1 Doubted

-- the instances of the nodes that are judged unknown
append-named : (n : ℕ) (is js : List Instance) → InstancesAreNamed n is → InstancesAreNamed n js → InstancesAreNamed n (is ++ js)
append-named n [] js first second = second
append-named n (i ∷ is) js first second = (first.0, append-named n is js first.1 second)

mutual
  doubts-named : (n : ℕ) (x : Tree) → TreeIsNamed n x → InstancesAreNamed n (doubts x)
  doubts-named n (node Open c t ts) named = doubts_of-named n ts named.1
  doubts-named n (node Cleared c t ts) named = tt
  doubts-named n (node Doubted c t ts) named = (named.0, doubts_of-named n ts named.1)

  pub doubts_of-named : (n : ℕ) (ts : Forest) → ForestIsNamed n ts → InstancesAreNamed n (doubts_of ts)
  doubts_of-named n bare named = tt
  doubts_of-named n (beside x xs) named = append-named n (doubts x) (doubts_of xs) (doubts-named n x named.0) (doubts_of-named n xs named.1)

-- an instance with a given head

abbrev MayBeNamed : ℕ → Option Term → Type 0
MayBeNamed n None = Unit {0}
MayBeNamed n (Some t) = IsNamed n t

or-named : (n : ℕ) (a b : Option Term) → MayBeNamed n a → MayBeNamed n b → MayBeNamed n (option_or a b)
or-named n None b first second = second
or-named n (Some t) b first second = first

mutual
  opposite-named : (n v : ℕ) (general special : Term) → IsNamed n special → MayBeNamed n (opposite v general special)
  opposite-named n v (variable w) special named = by (w == v)
    where
      by : (b : Bool) → MayBeNamed n (if b then Some special else None)
      by true = named
      by false = tt
  opposite-named n v (integer i) special named = tt
  opposite-named n v (compound f ts) (variable w) named = tt
  opposite-named n v (compound f ts) (integer i) named = tt
  opposite-named n v (compound f ts) (compound g us) named = opposite_among-named n v ts us named.1

  opposite_among-named : (n v : ℕ) (ts us : Terms) → AreNamed n us → MayBeNamed n (opposite_among v ts us)
  opposite_among-named n v none us named = tt
  opposite_among-named n v (more t ts) none named = tt
  opposite_among-named n v (more t ts) (more u us) named =
      or-named n (opposite v t u) (opposite_among v ts us) (opposite-named n v t u named.0) (opposite_among-named n v ts us named.1)

or_variable-named : (n v : ℕ) (o : Option Term) → MayBeNamed n o → IsNamed n (unwrap_or o (variable v))
or_variable-named n v None named = tt
or_variable-named n v (Some t) named = named

pub matching-named : (n : ℕ) (general special : Term) → IsNamed n special → (v : ℕ) → IsNamed n (matching general special v)
matching-named n general special named v = or_variable-named n v (opposite v general special) (opposite-named n v general special named)

instance_with-named : (n : ℕ) (t : Tuple) (label : Term) → TupleIsNamed n t → IsNamed n label → TupleIsNamed n (instance_with t label)
instance_with-named n t label named of_label =
    let apart = renamed_apart t label in
    let renamed : TupleIsNamed n apart = TupleIsNamed-apply n _ (canonical_tuple t) (λ v. tt) (TupleIsNamed-canonical n t named) in
    TupleIsNamed-canonical n _ (TupleIsNamed-apply n (matching apart.head label) apart (matching-named n apart.head label of_label) renamed)

-- the tree of an exit

or_no_point-named : (n : ℕ) (ps : List Point) (i : ℕ) → AllPointsNamed n ps → TupleIsNamed n (unwrap_or (slice_get ps i) no_point).tuple
or_no_point-named n [] i named = (tt, tt)
or_no_point-named n (p ∷ ps) zero named = named.0
or_no_point-named n (p ∷ ps) (suc i) named = or_no_point-named n ps i named.1

pub point_of-named : (n : ℕ) (R : Recorded) (i : ℕ) → RecordIsNamed n R → TupleIsNamed n (point_of R i).tuple
point_of-named n R i named = or_no_point-named n R.points i named.points

nodes_for-named : (n : ℕ) (below : ℕ → Term → Tree) → ((e : ℕ) (l : Term) → IsNamed n l → TreeIsNamed n (below e l)) →
    (atoms : List Term) (exits : List ℕ) → AllNamed n atoms → ForestIsNamed n (nodes_for below atoms exits)
nodes_for-named n below each [] exits named = tt
nodes_for-named n below each (a ∷ atoms) [] named = tt
nodes_for-named n below each (a ∷ atoms) (e ∷ exits) named = by (is_user_atom a) (nodes_for-named n below each atoms exits named.1)
  where
    by : (b : Bool) → ForestIsNamed n (nodes_for below atoms exits) → ForestIsNamed n (if b then beside (below e (canonical a)) (nodes_for below atoms exits) else nodes_for below atoms exits)
    by true rest = (each e (canonical a) (IsNamed-canonical n a named.0), rest)
    by false rest = rest

tree_in-named : (n k : ℕ) (R : Recorded) (e : ℕ) (label : Term) → RecordIsNamed n R → IsNamed n label → TreeIsNamed n (tree_in k R e label)
tree_in-named n zero R e label named of_label = (instance_with-named n (point_of R e).tuple label (point_of-named n R e named) of_label, tt)
tree_in-named n (suc k) R e label named of_label =
    let t = instance_with (point_of R e).tuple label in
    let instance = instance_with-named n (point_of R e).tuple label (point_of-named n R e named) of_label in
    (instance, nodes_for-named n (tree_in k R) (λ e l h. tree_in-named n k R e l named h) t.body (exits_to R e) instance.1)

pub tree-named : (n : ℕ) (R : Recorded) (e : ℕ) (label : Term) → RecordIsNamed n R → IsNamed n label → TreeIsNamed n (tree R e label)
tree-named n R e label named of_label = tree_in-named n e R e (canonical label) named (IsNamed-canonical n label of_label)

-- the record of a run

boxes-append : (n : ℕ) (bs : List BoxRow) (b : BoxRow) → AllBoxesNamed n bs → IsNamed n b.atom → AllBoxesNamed n (bs ++ b ∷ [])
boxes-append n [] b named last = (last, tt)
boxes-append n (x ∷ bs) b named last = (named.0, boxes-append n bs b named.1 last)

points-append : (n : ℕ) (ps : List Point) (p : Point) → AllPointsNamed n ps → TupleIsNamed n p.tuple → AllPointsNamed n (ps ++ p ∷ [])
points-append n [] p named last = (last, tt)
points-append n (x ∷ ps) p named last = (named.0, points-append n ps p named.1 last)

passed_at-named : (n : ℕ) (port : Port) (i : ℕ) (bs : List BoxRow) → AllBoxesNamed n bs → AllBoxesNamed n (passed_at port i bs)
passed_at-named n port i [] named = tt
passed_at-named n port zero (b ∷ bs) named = named
passed_at-named n port (suc i) (b ∷ bs) named = (named.0, passed_at-named n port i bs named.1)

noted-named : (n : ℕ) (R : Recorded) (b : ℕ) (port : Port) → RecordIsNamed n R → RecordIsNamed n (noted R b port)
noted-named n R zero port named = named
noted-named n R (suc i) port named = record { boxes = passed_at-named n port i R.boxes named.boxes; points = named.points }

port-named : (n : ℕ) (R : Recorded) (e : Event) (port : Port) → RecordIsNamed n R → IsNamed n e.atom → RecordIsNamed n (told_port R e port)
port-named n R e Call named atom = record { boxes = boxes-append n R.boxes _ named.boxes atom; points = named.points }
port-named n R e Exit named atom = noted-named n R e.box_no Exit named
port-named n R e Redo named atom = noted-named n R e.box_no Redo named
port-named n R e Fail named atom = noted-named n R e.box_no Fail named

told-named : (n : ℕ) (R : Recorded) (x : Item) → RecordIsNamed n R → ItemIsNamed n x → RecordIsNamed n (told R x)
told-named n R (Passed e) named item = port-named n R e e.port named item
told-named n R (Made p) named item = record { boxes = named.boxes; points = points-append n R.points p named.points item }
told-named n R (Answer a) named item = named
told-named n R (Error e b) named item = named

record_from-named : (n : ℕ) (R : Recorded) (xs : List Item) → RecordIsNamed n R → AllItemsNamed n xs → RecordIsNamed n (record_from R xs)
record_from-named n R [] named items = named
record_from-named n R (x ∷ xs) named items = record_from-named n (told R x) xs (told-named n R x named items.0) items.1

pub record_of-named : (n : ℕ) (xs : List Item) → AllItemsNamed n xs → RecordIsNamed n (record_of xs)
record_of-named n xs items = record_from-named n empty xs (record { boxes = tt; points = tt }) items

-- a run brings in no names that the program and the query don't have
pub run_record-named : (n : ℕ) (P : List Tuple) (query : Tuple) (budget answers : ℕ) → AllTuplesNamed n P → TupleIsNamed n query → RecordIsNamed n (record_of (query_run P query budget answers).passed)
run_record-named n P query budget answers program of_query =
    record_of-named n (query_run P query budget answers).passed
    (passed-named n (trace P query (budget + 1)) budget answers (trace_named n P query (budget + 1) program of_query))

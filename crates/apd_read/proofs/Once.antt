-- A text has one answer: its configurations follow one another in one way.
use Rattle.std.proofs.Common.{◌≡◌, ℕ, ◌-◌, ◌+◌, inl, inr, Option, Some, None, Result, Ok, Err, List, [], ◌∷◌, ◌++◌, refl, sym, ◌∙◌, ap, subst}
use Rattle.std.proofs.lemmas.List.{same_from_push}
use Rattle.apd_term.specs.Term.{variable}
use Rattle.apd_read.specs.declared.phrase.Phrase.{Phrase}
use Rattle.apd_read.specs.Phrases.{leaf}
use Rattle.apd_ops.specs.declared.op.Op.{Op}
use Rattle.apd_ops.specs.Table.{Table}
use Rattle.apd_read.specs.declared.lexeme.Lexeme.{Lexeme}
use Rattle.apd_read.specs.Reading.{Piece, Operand, Operator}
use Rattle.apd_read.specs.declared.places.Inside.{Inside}
use Rattle.apd_read.specs.declared.places.Inside.TheVariants.{Clause, Tail}
use Rattle.apd_read.specs.declared.places.Begin.{Begin}
use Rattle.apd_read.specs.declared.places.Begin.TheVariants.{Word, Opens, Prefix, Wide, Nothing, NoMore}
use Rattle.apd_read.specs.declared.places.Go.{Go}
use Rattle.apd_read.specs.declared.places.Go.TheVariants.{Infix, Separates, Turns, Closes, Unclosed, Stray, Ends}
use Rattle.apd_read.specs.declared.brackets.Whole.{Whole}
use Rattle.apd_read.specs.declared.brackets.ClauseFault.{ClauseFault}
use Rattle.apd_read.specs.declared.brackets.ClauseFault.TheVariants as fault
use Rattle.apd_read.specs.Places.{begins, goes}
use Rattle.apd_read.specs.Clause.{Place, operand_place, operator_place, most, made, HasRoom, Scans, item_begins, then_word, then_bracket, then_prefix, then_infix, Elements, no_element, then_element, then_tail, Fills, filled, FrontsRead, no_front, past_operand, past_operator, Layer, Under, outermost, deeper, At, HasNoReading, IsReading}

pub record Config : Type 0 where
  pub layers : List Layer
  pub kind : Inside
  pub from : ℕ
  pub done : List Phrase
  pub pieces : List Piece
  pub place : Place
  pub now : ℕ

abbrev config : List Layer → Inside → ℕ → List Phrase → List Piece → Place → ℕ → Config
config layers kind from done pieces place now = record { layers = layers; kind = kind; from = from; done = done; pieces = pieces; place = place; now = now }

-- the configuration behind what begins
abbrev begin_next : Begin → Config → Option Config
begin_next (Word t n) c = Some (config c.layers c.kind c.from c.done (c.pieces ++ Operand t ∷ []) operator_place (c.now + n))
begin_next (Opens j n) c = Some (config (record { kind = c.kind; from = c.from; done = c.done; pieces = c.pieces } ∷ c.layers) j (c.now + n) [] [] operand_place (c.now + n))
begin_next (Prefix o) c = Some (config c.layers c.kind c.from c.done (c.pieces ++ Operator o ∷ []) operand_place (c.now + 1))
begin_next Wide c = None
begin_next Nothing c = None
begin_next NoMore c = None

abbrev close_next : List Layer → Phrase → ℕ → Option Config
close_next [] t next = None
close_next (y ∷ ys) t next = Some (config ys y.kind y.from y.done (y.pieces ++ Operand t ∷ []) operator_place next)

-- the configuration behind what goes on, where the item is the term
abbrev go_next : Go → Phrase → Config → Option Config
go_next (Infix o) t c = Some (config c.layers c.kind c.from c.done (c.pieces ++ Operator o ∷ []) operand_place (c.now + 1))
go_next Separates t c = Some (config c.layers c.kind c.from (t ∷ c.done) [] operand_place (c.now + 1))
go_next Turns t c = Some (config c.layers Tail c.from (t ∷ c.done) [] operand_place (c.now + 1))
go_next Closes t c = close_next c.layers (made c.kind c.done t) (c.now + 1)
go_next Unclosed t c = None
go_next Stray t c = None
go_next Ends t c = None

-- the answer at a configuration that has no next
abbrev begin_verdict : Begin → ℕ → Result Whole ClauseFault
begin_verdict (Word t n) k = Err fault.Memory
begin_verdict (Opens j n) k = Err fault.Memory
begin_verdict (Prefix o) k = Err (fault.Priority k)
begin_verdict Wide k = Err (fault.Wide k)
begin_verdict Nothing k = Err (fault.NoTerm k)
begin_verdict NoMore k = Err (fault.NoEnd k)

abbrev go_verdict : Go → Phrase → ℕ → ℕ → Result Whole ClauseFault
go_verdict (Infix o) t from k = Err (fault.Priority k)
go_verdict Separates t from k = Err (fault.ArityOver k)
go_verdict Turns t from k = Err fault.Memory
go_verdict Closes t from k = Ok (record { phrase = t; next = k + 1 })
go_verdict Unclosed t from k = Err (fault.Unclosed (from - 1))
go_verdict Stray t from k = Err (fault.Stray k)
go_verdict Ends t from k = Err (fault.NoEnd k)

no_snoc : (xs : List Piece) (x : Piece) → [] ≡ xs ++ x ∷ [] → ⊥
no_snoc [] x e = cc
no_snoc (a ∷ xs) x e = cc

abbrev unclosed_at : ℕ → Result Whole ClauseFault
unclosed_at k = Err (fault.Unclosed k)

abbrev ok_of : Whole → Result Whole ClauseFault
ok_of y = Ok y

ended : (y : Whole) (t : Phrase) (k : ℕ) → y.phrase ≡ t → y.next ≡ k + 1 → y ≡ record { phrase = t; next = k + 1 }
ended y t k e f =
    let g : Phrase → Whole = λ w. record { phrase = w; next = y.next } in
    let h : ℕ → Whole = λ w. record { phrase = t; next = w } in
    ap g e ∙ ap h f

module _ (reads : ℕ → List Piece → Phrase → Type 0) (ops : Table) (ts : List Lexeme)
    (once : (m : ℕ) (k : Inside) (from at : ℕ) (ps : List Piece) (place : Place) (t u : Phrase) → Scans reads ops ts k from ps place at → reads m ps t → reads m ps u → t ≡ u)
    (fronts : (m : ℕ) (k : Inside) (from at : ℕ) (ps : List Piece) (place : Place) (t : Phrase) → Scans reads ops ts k from ps place at → reads m ps t → FrontsRead reads m ps) where
  -- the pieces are those of some tokens
  record Scanned (c : Config) : Type 0 where
    kind : Inside
    from : ℕ
    at : ℕ
    place : Place
    scans : Scans reads ops ts kind from c.pieces place at

  abbrev Needs : Go → Config → Phrase → Type 0
  Needs (Infix o) c t = Unit {0}
  Needs Separates c t = Scanned c × reads (most c.kind) c.pieces t × HasRoom c.kind c.done
  Needs Turns c t = Scanned c × reads (most c.kind) c.pieces t
  Needs Closes c t = Scanned c × reads (most c.kind) c.pieces t
  Needs Unclosed c t = Unit {0}
  Needs Stray c t = Unit {0}
  Needs Ends c t = Unit {0}

  abbrev StepsAt : Place → Config → Config → Type 0
  StepsAt operand_place c d = begin_next (begins ops ts c.now) c ≡ Some d
  StepsAt operator_place c d = (t : Phrase) × Needs (goes ops c.kind ts c.now) c t × (go_next (goes ops c.kind ts c.now) t c ≡ Some d)

  record Step (c d : Config) : Type 0 where
    steps : StepsAt c.place c d
    fine : FrontsRead reads (most d.kind) d.pieces

  same_reading : (c : Config) (t u : Phrase) → Scanned c → reads (most c.kind) c.pieces t → reads (most c.kind) c.pieces u → t ≡ u
  same_reading c t u s a b = once (most c.kind) s.kind s.from s.at c.pieces s.place t u s.scans a b

  go_once : (g : Go) (c : Config) (t u : Phrase) → Needs g c t → Needs g c u → go_next g t c ≡ go_next g u c
  go_once (Infix o) c t u a b = refl
  go_once Separates c t u a b = ap (λ w. go_next Separates w c) (same_reading c t u a.0 a.1 b.1)
  go_once Turns c t u a b = ap (λ w. go_next Turns w c) (same_reading c t u a.0 a.1 b.1)
  go_once Closes c t u a b = ap (λ w. go_next Closes w c) (same_reading c t u a.0 a.1 b.1)
  go_once Unclosed c t u a b = refl
  go_once Stray c t u a b = refl
  go_once Ends c t u a b = refl

  same_config : (d e : Config) → Some d ≡ Some e → d ≡ e
  same_config d e h = cc

  next_once : (p : Place) (c d e : Config) → StepsAt p c d → StepsAt p c e → d ≡ e
  next_once operand_place c d e a b = same_config d e (sym a ∙ b)
  next_once operator_place c d e a b = same_config d e (sym a.2 ∙ go_once (goes ops c.kind ts c.now) c a.0 b.0 a.1 b.1 ∙ b.2)

  step_once : (c d e : Config) → Step c d → Step c e → d ≡ e
  step_once c d e a b = next_once c.place c d e a.steps b.steps

  data Path : Config → Config → Type 0 where
    stop : {c : Config} → Path c c
    onward : {c d e : Config} → Step c d → Path d e → Path c e

  joined : {c d e : Config} → Path c d → Path d e → Path c e
  joined stop q = q
  joined (onward s p) q = onward s (joined p q)

  then_step : {c d e : Config} → Path c d → Step d e → Path c e
  then_step p s = joined p (onward s stop)

  record Stuck (c : Config) : Type 0 where
    no_step : (d : Config) → ¬ Step c d

  one_end : {s a b c : Config} → Path s a → Path c b → s ≡ c → Stuck a → Stuck b → a ≡ b
  one_end stop stop e x y = e
  one_end (stop {c = s}) (onward {d = d} h p) e x y = absurd (x.no_step d (subst (λ (w : Config). Step w d) (sym e) h))
  one_end (onward {d = d} h p) (stop {c = c}) e x y = absurd (y.no_step d (subst (λ (w : Config). Step w d) e h))
  one_end (onward {c = s} {d = d} h p) (onward {c = c} {d = f} g q) e x y =
      one_end p q (step_once c d f (subst (λ (w : Config). Step w d) e h) g) x y

  init_fine : {m : ℕ} {qs : List Piece} → FrontsRead reads m qs → (ps : List Piece) (p : Piece) → qs ≡ ps ++ p ∷ [] → FrontsRead reads m ps
  init_fine no_front ps p e = absurd (no_snoc ps p e)
  init_fine {m} (past_operand {ps = xs} t f) ps p e = subst (FrontsRead reads m) (same_from_push xs ps (Operand t) p e).0 f
  init_fine {m} (past_operator {ps = xs} o f r) ps p e = subst (FrontsRead reads m) (same_from_push xs ps (Operator o) p e).0 f

  -- where a bracket ends
  record Ending (layers : List Layer) (k : Inside) (from : ℕ) (t : Phrase) (next : ℕ) : Type 0 where
    kind : Inside
    done : List Phrase
    pieces : List Piece
    at : ℕ
    item : Phrase
    path : Path (config layers k from [] [] operand_place from) (config layers kind from done pieces operator_place at)
    closes : goes ops kind ts at ≡ Closes
    scanned : Scanned (config layers kind from done pieces operator_place at)
    read : reads (most kind) pieces item
    term : t ≡ made kind done item
    end : next ≡ at + 1

  scanned_at : {k : Inside} {from at : ℕ} {ps : List Piece} {place : Place} → Scans reads ops ts k from ps place at → (layers : List Layer) (j : Inside) (back : ℕ) (done : List Phrase) (p : Place) (n : ℕ)
      → Scanned (config layers j back done ps p n)
  scanned_at {k} {from} {at} {ps} {place} s layers j back done p n = record { kind = k; from = from; at = at; place = place; scans = s }

  begin_step : (c d : Config) (b : Begin) → c.place ≡ operand_place → begins ops ts c.now ≡ b → begin_next b c ≡ Some d → FrontsRead reads (most d.kind) d.pieces → Step c d
  begin_step c d b p e h f =
      record { steps = subst (λ w. StepsAt w c d) (sym p) (ap (λ w. begin_next w c) e ∙ h); fine = f }

  go_step : (c d : Config) (g : Go) (t : Phrase) → c.place ≡ operator_place → goes ops c.kind ts c.now ≡ g → Needs g c t → go_next g t c ≡ Some d → FrontsRead reads (most d.kind) d.pieces → Step c d
  go_step c d g t p e n h f =
      record { steps = subst (λ w. StepsAt w c d) (sym p) (t, subst (λ w. Needs w c t) (sym e) n, ap (λ w. go_next w t c) e ∙ h); fine = f }

  mutual
    scans_path : {k : Inside} {from at : ℕ} {ps : List Piece} {place : Place} → Scans reads ops ts k from ps place at → FrontsRead reads (most k) ps
        → (layers : List Layer) (back : ℕ) (done : List Phrase) → Path (config layers k back done [] operand_place from) (config layers k back done ps place at)
    scans_path item_begins f layers back done = stop
    scans_path (then_word {k} {from} {at} {ps} t n s e) f layers back done =
        then_step (scans_path s (init_fine f ps (Operand t) refl) layers back done)
        (begin_step (config layers k back done ps operand_place at) (config layers k back done (ps ++ Operand t ∷ []) operator_place (at + n)) (Word t n) refl e refl f)
    scans_path (then_bracket {k} {from} {at} {next} {ps} j n t s e g) f layers back done =
        let inner = record { kind = k; from = back; done = done; pieces = ps } ∷ layers in
        let x : Ending inner j (at + n) t next = fills_path g inner in
        let opened = then_step (scans_path s (init_fine f ps (Operand t) refl) layers back done)
        (begin_step (config layers k back done ps operand_place at) (config inner j (at + n) [] [] operand_place (at + n)) (Opens j n) refl e refl no_front) in
        let f' : FrontsRead reads (most k) (ps ++ Operand (made x.kind x.done x.item) ∷ []) =
        subst (λ w. FrontsRead reads (most k) (ps ++ Operand w ∷ [])) x.term f in
        let closing = go_step (config inner x.kind (at + n) x.done x.pieces operator_place x.at)
        (config layers k back done (ps ++ Operand (made x.kind x.done x.item) ∷ []) operator_place (x.at + 1)) Closes x.item refl x.closes (x.scanned, x.read) refl f' in
        subst (λ w. Path (config layers k back done [] operand_place from) (config layers k back done (ps ++ Operand w ∷ []) operator_place next)) (sym x.term)
        (subst (λ w. Path (config layers k back done [] operand_place from) (config layers k back done (ps ++ Operand (made x.kind x.done x.item) ∷ []) operator_place w)) (sym x.end)
        (then_step (joined opened x.path) closing))
    scans_path (then_prefix {k} {from} {at} {ps} o s e) f layers back done =
        then_step (scans_path s (init_fine f ps (Operator o) refl) layers back done)
        (begin_step (config layers k back done ps operand_place at) (config layers k back done (ps ++ Operator o ∷ []) operand_place (at + 1)) (Prefix o) refl e refl f)
    scans_path (then_infix {k} {from} {at} {ps} o s e) f layers back done =
        then_step (scans_path s (init_fine f ps (Operator o) refl) layers back done)
        (go_step (config layers k back done ps operator_place at) (config layers k back done (ps ++ Operator o ∷ []) operand_place (at + 1)) (Infix o) (leaf (variable 0)) refl e tt refl f)

    elements_path : {k j : Inside} {from at : ℕ} {done : List Phrase} → Elements reads ops ts k from j done at
        → (layers : List Layer) → Path (config layers k from [] [] operand_place from) (config layers j from done [] operand_place at)
    elements_path no_element layers = stop
    elements_path (then_element {from = from} {at = at} {next} {j} {done} {ps} t e s g r h) layers =
        then_step (joined (elements_path e layers) (scans_path s (fronts (most j) j at next ps operator_place t s r) layers from done))
        (go_step (config layers j from done ps operator_place next) (config layers j from (t ∷ done) [] operand_place (next + 1)) Separates t refl g (scanned_at s layers j from done operator_place next, r, h) refl no_front)
    elements_path (then_tail {from = from} {at = at} {next} {j} {done} {ps} t e s g r) layers =
        then_step (joined (elements_path e layers) (scans_path s (fronts (most j) j at next ps operator_place t s r) layers from done))
        (go_step (config layers j from done ps operator_place next) (config layers Tail from (t ∷ done) [] operand_place (next + 1)) Turns t refl g (scanned_at s layers j from done operator_place next, r) refl no_front)

    fills_path : {k : Inside} {from next : ℕ} {t : Phrase} → Fills reads ops ts k from t next → (layers : List Layer) → Ending layers k from t next
    fills_path (filled {from = from} {at = at} {next} {j} {done} {ps} t e s g r) layers = record {
      kind = j;
      done = done;
      pieces = ps;
      at = next;
      item = t;
      path = joined (elements_path e layers) (scans_path s (fronts (most j) j at next ps operator_place t s r) layers from done);
      closes = g;
      scanned = scanned_at s layers j from done operator_place next;
      read = r;
      term = refl;
      end = refl;
    }

  under_path : {layers : List Layer} {k : Inside} {from : ℕ} → Under reads ops ts layers k from
      → Path (config [] Clause 0 [] [] operand_place 0) (config layers k from [] [] operand_place from)
  under_path outermost = stop
  under_path (deeper {layers} {k} {j} {from} {at} {now} {done} {ps} i n u e s f b) =
      then_step (joined (joined (under_path u) (elements_path e layers)) (scans_path s f layers from done))
      (begin_step (config layers j from done ps operand_place now) (config (record { kind = j; from = from; done = done; pieces = ps } ∷ layers) i (now + n) [] [] operand_place (now + n)) (Opens i n) refl b refl no_front)

  at_path : {layers : List Layer} {j : Inside} {from : ℕ} {done : List Phrase} {ps : List Piece} {place : Place} {now : ℕ} → At reads ops ts layers j from done ps place now
      → Path (config [] Clause 0 [] [] operand_place 0) (config layers j from done ps place now)
  at_path {layers} {j} {from} {done} a = joined (joined (under_path a.under) (elements_path a.elements layers)) (scans_path a.scans a.fine layers from done)

  no_some : (d : Config) (o : Option Config) → o ≡ Some d → o ≡ None → ⊥
  no_some d o e f = cc

  refuse_begin : (p : Place) (c d : Config) (b : Begin) → p ≡ operand_place → begins ops ts c.now ≡ b → begin_next b c ≡ None → StepsAt p c d → ⊥
  refuse_begin operand_place c d b p e h s = no_some d (begin_next b c) (ap (λ w. begin_next w c) (sym e) ∙ s) h
  refuse_begin operator_place c d b p e h s = absurd (cc)

  refuse_go : (p : Place) (c d : Config) (g : Go) → p ≡ operator_place → goes ops c.kind ts c.now ≡ g → ((t : Phrase) → Needs g c t → go_next g t c ≡ None) → StepsAt p c d → ⊥
  refuse_go operand_place c d g p e h s = absurd (cc)
  refuse_go operator_place c d g p e h s =
      no_some d (go_next g s.0 c) (ap (λ w. go_next w s.0 c) (sym e) ∙ s.2) (h s.0 (subst (λ w. Needs w c s.0) e s.1))

  last_front : {m : ℕ} {qs : List Piece} → FrontsRead reads m qs → (ps : List Piece) (o : Op) → qs ≡ ps ++ Operator o ∷ [] → (x : Phrase) → (t : Phrase) × reads m (ps ++ Operator o ∷ Operand x ∷ []) t
  last_front no_front ps o e x = absurd (no_snoc ps (Operator o) e)
  last_front (past_operand {ps = xs} t f) ps o e x = let k : Operand t ≡ Operator o = (same_from_push xs ps (Operand t) (Operator o) e).1 in absurd (cc)
  last_front {m} (past_operator {ps = xs} q f r) ps o e x =
      let k = same_from_push xs ps (Operator q) (Operator o) e in
      subst (λ w. (t : Phrase) × reads m (w ++ Operator o ∷ Operand x ∷ []) t) k.0
      (subst (λ (w : Piece). (t : Phrase) × reads m (xs ++ w ∷ Operand x ∷ []) t) k.1 (r x))

  -- a step over an operator gives its front a reading
  refuse_front : (c d : Config) (o : Op) (n : ℕ) → Some (config c.layers c.kind c.from c.done (c.pieces ++ Operator o ∷ []) operand_place n) ≡ Some d
      → FrontsRead reads (most d.kind) d.pieces → HasNoReading reads c.kind c.pieces o → ⊥
  refuse_front c d o n e f h =
      let k : config c.layers c.kind c.from c.done (c.pieces ++ Operator o ∷ []) operand_place n ≡ d = cc in
      let g : FrontsRead reads (most c.kind) (c.pieces ++ Operator o ∷ []) = subst (λ (w : Config). FrontsRead reads (most w.kind) w.pieces) (sym k) f in
      let y = last_front g c.pieces o refl (leaf (variable 0)) in
      h (leaf (variable 0)) y.0 y.1

  refuse_prefix : (p : Place) (c d : Config) (o : Op) → p ≡ operand_place → begins ops ts c.now ≡ Prefix o → HasNoReading reads c.kind c.pieces o
      → StepsAt p c d → FrontsRead reads (most d.kind) d.pieces → ⊥
  refuse_prefix operand_place c d o p e h s f = refuse_front c d o (c.now + 1) (ap (λ w. begin_next w c) (sym e) ∙ s) f h
  refuse_prefix operator_place c d o p e h s f = absurd (cc)

  refuse_infix : (p : Place) (c d : Config) (o : Op) → p ≡ operator_place → goes ops c.kind ts c.now ≡ Infix o → HasNoReading reads c.kind c.pieces o
      → StepsAt p c d → FrontsRead reads (most d.kind) d.pieces → ⊥
  refuse_infix operand_place c d o p e h s f = absurd (cc)
  refuse_infix operator_place c d o p e h s f = refuse_front c d o (c.now + 1) (ap (λ w. go_next w s.0 c) (sym e) ∙ s.2) f h

  stuck_begin : (c : Config) (b : Begin) → c.place ≡ operand_place → begins ops ts c.now ≡ b → begin_next b c ≡ None → Stuck c
  stuck_begin c b p e h = record { no_step = λ d s. refuse_begin c.place c d b p e h s.steps }

  stuck_go : (c : Config) (g : Go) → c.place ≡ operator_place → goes ops c.kind ts c.now ≡ g → ((t : Phrase) → Needs g c t → go_next g t c ≡ None) → Stuck c
  stuck_go c g p e h = record { no_step = λ d s. refuse_go c.place c d g p e h s.steps }

  abbrev verdict_at : Place → Config → Phrase → Result Whole ClauseFault
  verdict_at operand_place c u = begin_verdict (begins ops ts c.now) c.now
  verdict_at operator_place c u = go_verdict (goes ops c.kind ts c.now) (made c.kind c.done u) c.from c.now

  abbrev EndNeeds : Go → Config → Phrase → Type 0
  EndNeeds (Infix o) c t = Unit {0}
  EndNeeds Separates c t = Unit {0}
  EndNeeds Turns c t = Unit {0}
  EndNeeds Closes c t = Scanned c × reads (most c.kind) c.pieces t
  EndNeeds Unclosed c t = Unit {0}
  EndNeeds Stray c t = Unit {0}
  EndNeeds Ends c t = Unit {0}

  abbrev EndNeedsAt : Place → Config → Phrase → Type 0
  EndNeedsAt operand_place c t = Unit {0}
  EndNeedsAt operator_place c t = EndNeeds (goes ops c.kind ts c.now) c t

  record Final (r : Result Whole ClauseFault) : Type 0 where
    last : Config
    item : Phrase
    path : Path (config [] Clause 0 [] [] operand_place 0) last
    stuck : Stuck last
    needs : EndNeedsAt last.place last item
    says : r ≡ verdict_at last.place last item

  go_verdict_once : (g : Go) (c : Config) (t u : Phrase) → EndNeeds g c t → EndNeeds g c u → go_verdict g (made c.kind c.done t) c.from c.now ≡ go_verdict g (made c.kind c.done u) c.from c.now
  go_verdict_once (Infix o) c t u a b = refl
  go_verdict_once Separates c t u a b = refl
  go_verdict_once Turns c t u a b = refl
  go_verdict_once Closes c t u a b = ap (λ w. go_verdict Closes (made c.kind c.done w) c.from c.now) (same_reading c t u a.0 a.1 b.1)
  go_verdict_once Unclosed c t u a b = refl
  go_verdict_once Stray c t u a b = refl
  go_verdict_once Ends c t u a b = refl

  verdict_once : (p : Place) (c : Config) (t u : Phrase) → EndNeedsAt p c t → EndNeedsAt p c u → verdict_at p c t ≡ verdict_at p c u
  verdict_once operand_place c t u a b = refl
  verdict_once operator_place c t u a b = go_verdict_once (goes ops c.kind ts c.now) c t u a b

  final_once : (r q : Result Whole ClauseFault) → Final r → Final q → r ≡ q
  final_once r q a b =
      let e : a.last ≡ b.last = one_end a.path b.path refl a.stuck b.stuck in
      let n : EndNeedsAt a.last.place a.last b.item = subst (λ (w : Config). EndNeedsAt w.place w b.item) (sym e) b.needs in
      let s : q ≡ verdict_at a.last.place a.last b.item = subst (λ (w : Config). q ≡ verdict_at w.place w b.item) (sym e) b.says in
      a.says ∙ verdict_once a.last.place a.last a.item b.item a.needs n ∙ sym s

  final_begin : (r : Result Whole ClauseFault) (layers : List Layer) (j : Inside) (from : ℕ) (done : List Phrase) (ps : List Piece) (now : ℕ) (b : Begin)
      → At reads ops ts layers j from done ps operand_place now → begins ops ts now ≡ b → Stuck (config layers j from done ps operand_place now) → r ≡ begin_verdict b now → Final r
  final_begin r layers j from done ps now b a e s h = record {
    last = config layers j from done ps operand_place now;
    item = leaf (variable 0);
    path = at_path a;
    stuck = s;
    needs = tt;
    says = h ∙ ap (λ w. begin_verdict w now) (sym e);
  }

  final_go : (r : Result Whole ClauseFault) (layers : List Layer) (j : Inside) (from : ℕ) (done : List Phrase) (ps : List Piece) (now : ℕ) (g : Go)
      → At reads ops ts layers j from done ps operator_place now → goes ops j ts now ≡ g → EndNeeds g (config layers j from done ps operator_place now) (leaf (variable 0))
      → Stuck (config layers j from done ps operator_place now) → r ≡ go_verdict g (made j done (leaf (variable 0))) from now → Final r
  final_go r layers j from done ps now g a e n s h = record {
    last = config layers j from done ps operator_place now;
    item = leaf (variable 0);
    path = at_path a;
    stuck = s;
    needs = subst (λ w. EndNeeds w (config layers j from done ps operator_place now) (leaf (variable 0))) (sym e) n;
    says = h ∙ ap (λ w. go_verdict w (made j done (leaf (variable 0))) from now) (sym e);
  }

  final_of : (r : Result Whole ClauseFault) → IsReading reads ops ts r → (r ≡ Err fault.Memory → ⊥) → Final r
  final_of (Ok r) h n =
      let x : Ending [] Clause 0 r.phrase r.next = fills_path h [] in
      record {
        last = config [] x.kind 0 x.done x.pieces operator_place x.at;
        item = x.item;
        path = x.path;
        stuck = stuck_go (config [] x.kind 0 x.done x.pieces operator_place x.at) Closes refl x.closes (λ t k. refl);
        needs = subst (λ w. EndNeeds w (config [] x.kind 0 x.done x.pieces operator_place x.at) x.item) (sym x.closes) (x.scanned, x.read);
        says = ap ok_of (ended r (made x.kind x.done x.item) x.at x.term x.end) ∙ ap (λ w. go_verdict w (made x.kind x.done x.item) 0 x.at) (sym x.closes);
      }
  final_of (Err (fault.NoTerm k)) h n = final_begin (Err (fault.NoTerm k)) h.0 h.1 h.2 h.3 h.4 k Nothing h.5 h.6 (stuck_begin (config h.0 h.1 h.2 h.3 h.4 operand_place k) Nothing refl h.6 refl) refl
  final_of (Err (fault.Wide k)) h n = final_begin (Err (fault.Wide k)) h.0 h.1 h.2 h.3 h.4 k Wide h.5 h.6 (stuck_begin (config h.0 h.1 h.2 h.3 h.4 operand_place k) Wide refl h.6 refl) refl
  final_of (Err (fault.Stray k)) h n = final_go (Err (fault.Stray k)) h.0 h.1 h.2 h.3 h.4 k Stray h.5 h.6 tt (stuck_go (config h.0 h.1 h.2 h.3 h.4 operator_place k) Stray refl h.6 (λ t w. refl)) refl
  final_of (Err (fault.Unclosed k)) h n =
      let c = h.1 in
      final_go (Err (fault.Unclosed k)) c.0 c.1 c.2 c.3 c.4 h.0 Unclosed c.5 c.6.0 tt
      (stuck_go (config c.0 c.1 c.2 c.3 c.4 operator_place h.0) Unclosed refl c.6.0 (λ t w. refl)) (ap unclosed_at c.6.1)
  final_of (Err (fault.NoEnd k)) h n = elim h [
    | inl a ↦ final_begin (Err (fault.NoEnd k)) a.0 a.1 a.2 a.3 a.4 k NoMore a.5 a.6 (stuck_begin (config a.0 a.1 a.2 a.3 a.4 operand_place k) NoMore refl a.6 refl) refl
    | inr b ↦ final_go (Err (fault.NoEnd k)) b.0 b.1 b.2 b.3 b.4 k Ends b.5 b.6 tt (stuck_go (config b.0 b.1 b.2 b.3 b.4 operator_place k) Ends refl b.6 (λ t w. refl)) refl
  ]
  final_of (Err (fault.Priority k)) h n = elim h [
    | inl a ↦ final_begin (Err (fault.Priority k)) a.0 a.1 a.2 a.3 a.4 k (Prefix a.6.0) a.5 a.6.1
        (record { no_step = λ d s. refuse_prefix operand_place (config a.0 a.1 a.2 a.3 a.4 operand_place k) d a.6.0 refl a.6.1 a.6.2 s.steps s.fine }) refl
    | inr b ↦ final_go (Err (fault.Priority k)) b.0 b.1 b.2 b.3 b.4 k (Infix b.6.0) b.5 b.6.1 tt
        (record { no_step = λ d s. refuse_infix operator_place (config b.0 b.1 b.2 b.3 b.4 operator_place k) d b.6.0 refl b.6.1 b.6.2 s.steps s.fine }) refl
  ]
  final_of (Err (fault.ArityOver k)) h n =
      final_go (Err (fault.ArityOver k)) h.0 h.1 h.2 h.3 h.4 k Separates h.5 h.6.0 tt
      (stuck_go (config h.0 h.1 h.2 h.3 h.4 operator_place k) Separates refl h.6.0 (λ t w. absurd (h.6.1 w.2))) refl
  final_of (Err fault.Memory) h n = absurd (n refl)

  pub reading_once : (r q : Result Whole ClauseFault) → IsReading reads ops ts r → IsReading reads ops ts q → (r ≡ Err fault.Memory → ⊥) → (q ≡ Err fault.Memory → ⊥) → r ≡ q
  reading_once r q a b m n = final_once r q (final_of r a m) (final_of q b n)

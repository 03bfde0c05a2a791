-- A watch over a text, byte by byte: whether `[N WORD]` stands in it outside quotes.
use Rattle.std.proofs.Common.{◌≡◌, ℕ, ◌<◌, length, List, [], ◌∷◌, ◌++◌, refl, sym, ◌∙◌, ap, subst, arith, Bool, true, false}
use Rattle.std.specs.Prelude.{◌==◌, ◌&&◌, if◌then◌else◌}
use Rattle.std.specs.Char.{is_ascii_digit}
use Rattle.std.specs.List.{list_all}
use Rattle.std.proofs.lemmas.Bool.Decides.{nat_tests}

-- what of it stands last
pub data Watch : Type 0 where
  -- nothing
  Free : Watch
  -- `[` and digits behind it, and a space behind these, and a word behind that
  Square SquareDigits SquareSpace SquareWord : Watch
  -- between quotes, and there behind a backslash, and in hexadecimal digits
  Quoted Slashed Coded : Watch
  -- it stood there
  Found : Watch

-- outside quotes a quote or a square bracket begins anew
abbrev pub turn : ℕ → Watch → Watch
turn b w = if b == 39 then Quoted else (if b == 91 then Square else w)

-- the next byte
unfoldable pub step : Watch → ℕ → Watch
step Free b = turn b Free
step Square b = turn b (if is_ascii_digit b then SquareDigits else Free)
step SquareDigits b = turn b (if is_ascii_digit b then SquareDigits else (if b == 32 then SquareSpace else Free))
step SquareSpace b = turn b SquareWord
step SquareWord b = turn b (if b == 32 then Free else (if b == 93 then Found else SquareWord))
step Quoted b = if b == 39 then Free else (if b == 92 then Slashed else Quoted)
step Slashed b = if b == 120 then Coded else Quoted
step Coded b = if b == 92 then Quoted else Coded
step Found b = Found

-- the bytes of a text
abbrev pub watched : Watch → List ℕ → Watch
watched w [] = w
watched w (b ∷ bs) = watched (step w b) bs

pub watched-append : (w : Watch) (xs ys : List ℕ) → watched w (xs ++ ys) ≡ watched (watched w xs) ys
watched-append w [] ys = refl
watched-append w (x ∷ xs) ys = watched-append (step w x) xs ys

-- where a term begins, and where it ends
pub data IsStart : Watch → Type 0 where
  free_start : IsStart Free
  square_start : IsStart Square

pub data IsEnd : Watch → Type 0 where
  free_end : IsEnd Free
  digits_end : IsEnd SquareDigits

-- behind a left operand and a space, and behind the infix operator
pub data IsGap : Watch → Type 0 where
  free_gap : IsGap Free
  digits_gap : IsGap SquareSpace

pub data IsPast : Watch → Type 0 where
  free_past : IsPast Free
  word_past : IsPast SquareWord

either_end : (t : Bool) (v w : Watch) → IsEnd v → IsEnd w → IsEnd (if t then v else w)
either_end true v w h k = h
either_end false v w h k = k

-- Bytes that are no quote, square bracket or space.

pub record IsCalm (b : ℕ) : Type 0 where
  pub quote : (b == 39) ≡ false
  pub square : (b == 91) ≡ false
  pub space : (b == 32) ≡ false
  pub closing : (b == 93) ≡ false

abbrev pub AllCalm : List ℕ → Type 0
AllCalm [] = Unit {0}
AllCalm (b ∷ bs) = IsCalm b × AllCalm bs

-- a test that none of these bytes passes
pub record IsCalming (test : ℕ → Bool) : Type 0 where
  pub quote : test 39 ≡ false
  pub square : test 91 ≡ false
  pub space : test 32 ≡ false
  pub closing : test 93 ≡ false

-- a byte that passes a test isn't one that doesn't
pub other_byte : (test : ℕ → Bool) (k b : ℕ) → test k ≡ false → test b ≡ true → (b == k) ≡ false
other_byte test k b n e = by (b == k) refl
  where
    by : (c : Bool) → (b == k) ≡ c → (b == k) ≡ false
    by false f = f
    by true f = let same : b ≡ k = grind (arith, nat_tests, f) in absurd (let bad : true ≡ false = sym e ∙ ap test same ∙ n in cc)

pub calm-by : (test : ℕ → Bool) → IsCalming test → (b : ℕ) → test b ≡ true → IsCalm b
calm-by test c b e = record {
  quote = other_byte test 39 b c.quote e;
  square = other_byte test 91 b c.square e;
  space = other_byte test 32 b c.space e;
  closing = other_byte test 93 b c.closing e;
}

pub all_calm-by : (test : ℕ → Bool) → IsCalming test → (bs : List ℕ) → list_all test bs ≡ true → AllCalm bs
all_calm-by test c [] e = tt
all_calm-by test c (b ∷ bs) e = by (all_calm-by test c bs) (test b) (list_all test bs) refl refl e
  where
    by : (list_all test bs ≡ true → AllCalm bs) → (x y : Bool) → test b ≡ x → list_all test bs ≡ y → (x && y) ≡ true → AllCalm (b ∷ bs)
    by ih true true f g h = (calm-by test c b f, ih g)
    by ih true false f g h = absurd (cc)
    by ih false y f g h = absurd (cc)

pub turn-calm : (b : ℕ) (w : Watch) → IsCalm b → turn b w ≡ w
turn-calm b w c = ap (λ t. if t then Quoted else (if b == 91 then Square else w)) c.quote ∙ ap (λ t. if t then Square else w) c.square

-- in a term
calm-end : (b : ℕ) → IsCalm b → {w : Watch} → IsEnd w → IsEnd (step w b)
unfolding step
calm-end b c free_end = subst IsEnd (sym (turn-calm b Free c)) free_end
calm-end b c digits_end =
    subst IsEnd
    (sym (turn-calm b (if is_ascii_digit b then SquareDigits else (if b == 32 then SquareSpace else Free)) c ∙ ap (λ t. if is_ascii_digit b then SquareDigits else (if t then SquareSpace else Free)) c.space))
    (either_end (is_ascii_digit b) SquareDigits Free digits_end free_end)

calm-start : (b : ℕ) → IsCalm b → {w : Watch} → IsStart w → IsEnd (step w b)
unfolding step
calm-start b c free_start = subst IsEnd (sym (turn-calm b Free c)) free_end
calm-start b c square_start = subst IsEnd (sym (turn-calm b (if is_ascii_digit b then SquareDigits else Free) c)) (either_end (is_ascii_digit b) SquareDigits Free digits_end free_end)

pub all-end : (bs : List ℕ) → AllCalm bs → {w : Watch} → IsEnd w → IsEnd (watched w bs)
all-end [] h e = e
all-end (b ∷ bs) h e = all-end bs h.1 (calm-end b h.0 e)

pub all-start : (bs : List ℕ) → AllCalm bs → 0 < length bs → {w : Watch} → IsStart w → IsEnd (watched w bs)
all-start [] h l s = absurd (omega (arith, l))
all-start (b ∷ bs) h l s = all-end bs h.1 (calm-start b h.0 s)

pub calm-free : (b : ℕ) → IsCalm b → step Free b ≡ Free
unfolding step
calm-free b c = turn-calm b Free c

pub all-free : (bs : List ℕ) → AllCalm bs → watched Free bs ≡ Free
all-free [] h = refl
all-free (b ∷ bs) h = ap (λ w. watched w bs) (calm-free b h.0) ∙ all-free bs h.1

calm-past : (b : ℕ) → IsCalm b → {w : Watch} → IsPast w → IsPast (step w b)
unfolding step
calm-past b c free_past = subst IsPast (sym (turn-calm b Free c)) free_past
calm-past b c word_past =
    subst IsPast
    (sym (turn-calm b (if b == 32 then Free else (if b == 93 then Found else SquareWord)) c ∙ ap (λ t. if t then Free else (if b == 93 then Found else SquareWord)) c.space ∙ ap (λ t. if t then Found else SquareWord) c.closing))
    word_past

pub all-past : (bs : List ℕ) → AllCalm bs → {w : Watch} → IsPast w → IsPast (watched w bs)
all-past [] h p = p
all-past (b ∷ bs) h p = all-past bs h.1 (calm-past b h.0 p)

-- no digit stands first behind a left operand
pub calm-gap : (b : ℕ) → IsCalm b → is_ascii_digit b ≡ false → {w : Watch} → IsGap w → IsPast (step w b)
unfolding step
calm-gap b c n free_gap = subst IsPast (sym (turn-calm b Free c)) free_past
calm-gap b c n digits_gap = subst IsPast (sym (turn-calm b SquareWord c)) word_past

-- a name and a space where a term begins: nothing is left
pub all-before : (b : ℕ) (bs : List ℕ) → AllCalm (b ∷ bs) → is_ascii_digit b ≡ false → {w : Watch} → IsStart w → step (watched w (b ∷ bs)) 32 ≡ Free
unfolding step
all-before b bs h d free_start = ap (λ w. step w 32) (all-free (b ∷ bs) h)
all-before b bs h d square_start =
    ap (λ w. step (watched w bs) 32) (turn-calm b (if is_ascii_digit b then SquareDigits else Free) h.0 ∙ ap (λ t. if t then SquareDigits else Free) d)
    ∙ ap (λ w. step w 32) (all-free bs h.1)

-- The exit that a command names is one of a box of the program's.
use Rattle.std.proofs.Common.{◌≡◌, ℕ, ℤ, pos, negsuc, Bool, true, false, Option, Some, None, Ok, Err, refl, sym, ap, subst}
use Rattle.std.specs.Prelude.{if◌then◌else◌}
use Rattle.apd_ports.specs.declared.point.Point.{Point}
use Rattle.apd_record.specs.Recorded.{Recorded, box_at, exits}
use Rattle.apd_record.specs.declared.rows.BoxRow.{BoxRow}
use Rattle.apd_record.specs.Reading.{point_of}
use Rattle.apd_record.proofs.Readers.{exits-are}
use Rattle.apd_divide.specs.Exits.{IsUserExit}
use Rattle.apd_divide.proofs.Solved.{point-is}
use Rattle.apd_term.specs.Term.{IsAmong}
use Rattle.apd_text.specs.declared.entry.Refusal.TheVariants.{NotUserBox}
use Rattle.apd_symptoms.specs.Symptoms.{numbered, exit_by, exit_in, exit_of}
use Rattle.apd_symptoms.proofs.Exits.{numbered-among}

-- the exit's point, of a box of the program's
pub record Exits (R : Recorded) (e : ℕ) : Type 0 where
  pub exit : IsUserExit R e
  pub head : exit.point.tuple.head ≡ (point_of R e).tuple.head

exit_is : (R : Recorded) (b : ℕ) (row : BoxRow) (k : ℤ) (o : Option ℕ) (e : ℕ) → box_at R b ≡ Some row → ((x : ℕ) → o ≡ Some x → IsAmong (exits R b) x) → exit_by b row k o ≡ Ok e → Exits R e
exit_is R b row k None e there among is = absurd (cc)
exit_is R b row k (Some x) e there among is = by row.is_user refl is
  where
    by : (u : Bool) → row.is_user ≡ u → (if u then Ok x else Err (NotUserBox b)) ≡ Ok e → Exits R e
    by true u h =
        let same : x ≡ e = cc in
        let f = (exits-are R b x).0 (among x refl) in
        subst (Exits R) same
        (record {
          exit = record {
            point = f.0;
            there = f.1;
            is_exit = f.3;
            row = row;
            row_there = subst (λ n. box_at R n ≡ Some row) (sym f.2) there;
            user = u;
          };
          head = ap (λ (p : Point). p.tuple.head) (sym (point-is R x f.0 f.1));
        })
    by false u h = absurd (cc)

exit_in_row : (R : Recorded) (b : ℕ) (k : ℤ) (o : Option BoxRow) (e : ℕ) → box_at R b ≡ o → exit_in R b k o ≡ Ok e → Exits R e
exit_in_row R b k None e there is = absurd (cc)
exit_in_row R b k (Some row) e there is = exit_is R b row k (numbered (exits R b) k) e there (λ x h. numbered-among (exits R b) k x h) is

pub exit_of-exits : (R : Recorded) (b k : ℤ) (e : ℕ) → exit_of R b k ≡ Ok e → Exits R e
exit_of-exits R (pos b) k e is = exit_in_row R b k (box_at R b) e refl is
exit_of-exits R (negsuc b) k e is = absurd (cc)

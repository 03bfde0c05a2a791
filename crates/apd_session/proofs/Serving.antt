-- How a session goes on with what it begins with.
use Rattle.std.proofs.Common.{◌≡◌, ◌⊎◌, inl, inr, ℕ, List, [], refl, subst, sym, Bool, true, false, Option, Some, arith}
use Rattle.apd_io.specs.Outside.{Counted, Rose}
use Rattle.apd_lines.proofs.Growing.{Grown-more}
use Rattle.apd_ops.specs.Standard.{standard_table}
use Rattle.apd_ops.specs.Table.{Table}
use Rattle.apd_read.specs.Reader.{Reader}
use Rattle.apd_talk.specs.Speech.{Lasting}
use Rattle.apd_term.specs.Growth.{Grown, GrowsBy}
use Rattle.apd_term.specs.StandardNames.{standard_names}
use Rattle.apd_read.proofs.Growing.{grown_both}
use Rattle.apd_text.specs.declared.log.Log.{Log}
use Rattle.apd_words.specs.Words.{options_of}
use Rattle.apd_check.specs.declared.checked.Checked.{Checked}
use Rattle.apd_check.specs.declared.checked.Checked.TheVariants.{Holds, Fails}
use Rattle.apd_session.specs.Checking.{IsLogChecked}
use Rattle.apd_session.specs.Known.{LoadFailed, Outside, ReadFailed, Streams, WriteFailed}
use Rattle.apd_session.specs.Opening.{checks, plays, stops_with}
use Rattle.apd_session.specs.Causes.{Comes}
use Rattle.apd_session.specs.Outcome.{GoesOn, IsSaid, IsSession, LoadsAndReadsFor, WritesFor}
use Rattle.apd_session.specs.Preparing.{MayStop, Opens, is_read_fault}
use Rattle.apd_session.specs.Session.{demonstrates, ends_before, says_one, transcript_of, verdict_stop}
use Rattle.apd_session.specs.declared.opening.Beginning.{Beginning}
use Rattle.apd_session.specs.declared.opening.Opening.{Opening}
use Rattle.apd_session.specs.declared.opening.Opening.TheVariants.{Unloaded, Closed}
use Rattle.apd_session.specs.declared.opening.Start.{Start}
use Rattle.apd_session.specs.declared.opening.Stop.{Stop}
use Rattle.apd_session.specs.declared.status.Status.{Status}
use Rattle.apd_session.specs.declared.status.Status.TheVariants as statuses
use Rattle.apd_session.proofs.Demos.{shown_ends}
use Rattle.apd_session.proofs.Limit.{nothing_read}
use Rattle.apd_session.proofs.Loading.{grew_by, stop_limit, stop_read}
use Rattle.apd_session.proofs.Turning.{grows_none, grows_few}
use Rattle.apd_session.proofs.Worlds.{met_so, met_wanting, unread}

-- the status after a check
verdict_may : (verdict : Checked) → MayStop (verdict_stop verdict).status
verdict_may (Holds total) = tt
verdict_may (Fails line why) = tt

verdict_no_read : (verdict : Checked) → Some (verdict_stop verdict).status ≡ Some statuses.ReadFault → ⊥
verdict_no_read (Holds total) e = absurd (cc)
verdict_no_read (Fails line why) e = absurd (cc)

-- the status of what ends before, whatever it stops with
stops_so : (why : Stop) (st due : Status) → Comes st why.status → Some why.status ≡ Some due → Comes st due
stops_so why st due comes is = let same : why.status ≡ due = cc in subst (λ (s : Status). Comes st s) same comes

module _ (p q : Streams) (names : List (List ℕ)) (log : Log) (stays : q.left ≡ p.left) (reads : q.read_faults ≡ p.read_faults) where
  pub unloaded_goes : (why : Stop) (st : Status) → log.names ≡ names → MayStop why.status → Lasting names (λ n. IsSaid st (says_one n why) log p.held q.held) → (st ≡ statuses.WriteFault → WriteFailed p q) → WritesFor st p q
      → (st ≡ why.status) ⊎ ((st ≡ statuses.WriteFault) ⊎ (st ≡ statuses.Memory)) → GoesOn (Unloaded why) names p q log st
  unloaded_goes why st same may said write writes is = record {
    verdict = Holds 0;
    judged = λ n grew reader. inr tt;
    answers = λ n grew reader. unread p q (transcript_of reader (Unloaded why) (Holds 0)) st log (says_one n why) stays (λ input ends. refl) (said n (subst (λ (l : List (List ℕ)). Grown l n) same grew));
    names = grows_none 16777216 _ _ same;
    limit = λ e. absurd (stop_limit why.status st may is e);
    read = λ e. inl (stop_read why.status st is e);
    write = write;
    in_time = nothing_read p.left q.left stays;
    reads = inl reads;
    writes = writes;
    stopped = λ due e. (reads, stops_so why st due is e);
  }

  pub closed_goes : (ops : Table) (b : Beginning) (why : Stop) (st : Status) → log.names ≡ names → MayStop why.status → Lasting names (λ n. IsSaid st (ends_before n ops b why) log p.held q.held) → (st ≡ statuses.WriteFault → WriteFailed p q) → WritesFor st p q
      → (st ≡ why.status) ⊎ ((st ≡ statuses.WriteFault) ⊎ (st ≡ statuses.Memory)) → GoesOn (Closed ops b why) names p q log st
  closed_goes ops b why st same may said write writes is = record {
    verdict = Holds 0;
    judged = λ n grew reader. inr tt;
    answers = λ n grew reader. unread p q (transcript_of reader (Closed ops b why) (Holds 0)) st log (ends_before n ops b why) stays (λ input ends. refl) (said n (subst (λ (l : List (List ℕ)). Grown l n) same grew));
    names = grows_none 16777216 _ _ same;
    limit = λ e. absurd (stop_limit why.status st may is e);
    read = λ e. inl (stop_read why.status st is e);
    write = write;
    in_time = nothing_read p.left q.left stays;
    reads = inl reads;
    writes = writes;
    stopped = λ due e. (reads, stops_so why st due is e);
  }

  pub played_goes : (ops : Table) (start : Start) (nodes : ℕ) (st : Status) → Lasting log.names (λ n. (reader : Reader n) → IsSaid st (demonstrates reader ops nodes start) log p.held q.held)
      → GrowsBy 16777216 names log.names → (st ≡ statuses.WriteFault → WriteFailed p q) → WritesFor st p q → GoesOn (plays ops start nodes) names p q log st
  played_goes ops start nodes st said grows write writes = record {
    verdict = Holds 0;
    judged = λ n grew reader. inr tt;
    answers = λ n grew reader. unread p q (transcript_of reader (plays ops start nodes) (Holds 0)) st log (demonstrates reader ops nodes start) stays (λ input ends. refl) (said n grew reader);
    names = grows;
    limit = λ e. absurd ((shown_ends ops start nodes p q log st said).0 e);
    read = λ e. absurd ((shown_ends ops start nodes p q log st said).1 e);
    write = write;
    in_time = nothing_read p.left q.left stays;
    reads = inl reads;
    writes = writes;
    stopped = λ due e. absurd (cc);
  }

  pub checked_goes : (ops : Table) (start : Start) (text : List ℕ) (st : Status) → IsLogChecked ops start text names log p.held q.held st → (st ≡ statuses.WriteFault → WriteFailed p q) → WritesFor st p q → GoesOn (checks ops start text) names p q log st
  checked_goes ops start text st c write writes = record {
    verdict = c.verdict;
    judged = c.judged;
    answers = λ n grew reader. unread p q (transcript_of reader (checks ops start text) c.verdict) st log (ends_before n ops start.beginning (verdict_stop c.verdict)) stays (λ input ends. refl) (c.said n grew);
    names = c.names;
    limit = λ e. absurd (stop_limit (verdict_stop c.verdict).status st (verdict_may c.verdict) c.is e);
    read = λ e. absurd (verdict_no_read c.verdict (stop_read (verdict_stop c.verdict).status st c.is e));
    write = write;
    in_time = nothing_read p.left q.left stays;
    reads = inl reads;
    writes = writes;
    stopped = λ due e. absurd (cc);
  }

either_failed : (p q : Outside) (x : Opening) → (stops_with x ≡ Some statuses.ReadFault → LoadFailed p q) → (stops_with x ≡ Some statuses.ReadFault) ⊎ ReadFailed p.streams q.streams → LoadFailed p q ⊎ ReadFailed p.streams q.streams
either_failed p q x fault (inl e) = inl (fault e)
either_failed p q x fault (inr r) = inr r

-- which loads and reads failed, by what the opening stops with
fault_stops : (s : Option Status) → is_read_fault s ≡ true → s ≡ Some statuses.ReadFault
fault_stops (Some statuses.ReadFault) is = refl
fault_stops s is = absurd (cc)

fails_by : (p q : Outside) (x : Opening) (kept : List (List ℕ)) (log : Log) (st : Status) (b : Bool) → is_read_fault (stops_with x) ≡ b → Counted b p.load_faults q.load_faults → GoesOn x kept p.streams q.streams log st → LoadsAndReadsFor st p q
fails_by p q x kept log st true is counts goes = let stopped = goes.stopped statuses.ReadFault (fault_stops (stops_with x) is) in inr (counts.0, stopped.0, stopped.1)
fails_by p q x kept log st false is counts goes = inl (counts, goes.reads)

rose_stop : (s : Option Status) (a b : ℕ) → Counted (is_read_fault s) a b → s ≡ Some statuses.ReadFault → Rose a b
rose_stop s a b counts is = let fault : Counted true a b = subst (λ (o : Option Status). Counted (is_read_fault o) a b) is counts in fault.0

-- the whole
module _ (words : List (List ℕ)) (p q : Outside) (kept : List (List ℕ)) (log : Log) (grows : GrowsBy 3145728 standard_names kept) where
  pub serves : (x : Opening) (st : Status) → Opens p.content (LoadFailed p q) (options_of words) kept x → Counted (is_read_fault (stops_with x)) p.load_faults q.load_faults → GoesOn x kept p.streams q.streams log st → IsSession words p q log st
  serves x st opens counts goes = record {
    meaning = λ names grew reader. met_so words names reader p q st log kept x goes.verdict opens (Grown-more kept log.names names (grew_by _ _ _ goes.names) grew) (goes.judged names grew reader) (goes.answers names grew reader);
    names = grown_both standard_names kept log.names 3145728 16777216 grows goes.names;
    limit = goes.limit;
    read = λ e. either_failed p q x (rose_stop (stops_with x) p.load_faults q.load_faults counts) (goes.read e);
    write = goes.write;
    in_time = goes.in_time;
    fails = fails_by p q x kept log st (is_read_fault (stops_with x)) refl counts goes;
    writes = goes.writes;
  }

  -- memory ran out before anything was said
  pub serves_not : q.load_faults ≡ p.load_faults → q.streams.read_faults ≡ p.streams.read_faults → q.streams.write_faults ≡ p.streams.write_faults → q.streams.left ≡ p.streams.left → q.streams.held ≡ p.streams.held → log.entries.list ≡ [] → log.ops ≡ standard_table → log.names ≡ kept → IsSession words p q log statuses.Memory
  serves_not loads reads writes stays same empty ops is = record {
    meaning = λ names grew reader. met_wanting words names reader p q log stays same empty ops;
    names = subst (λ (l : List (List ℕ)). GrowsBy 19922944 standard_names l) (sym is) (grows_few 3145728 19922944 _ _ (omega arith) grows);
    limit = λ e. absurd (cc);
    read = λ e. absurd (cc);
    write = λ e. absurd (cc);
    in_time = nothing_read p.streams.left q.streams.left stays;
    fails = inl (loads, inl reads);
    writes = λ not. writes;
  }

-- Two outcomes that satisfy a promise are equal, cited from the crates that make the promises. Assumes nothing.
use mathlib.Core.Path.{◌≡◌, refl}
use Rattle.day.proofs.Cases.{give}
use Rattle.checks.proofs.Refusal.{passed_unique}
use Rattle.checks.proofs.Check.{slots_is_check, power_is_check, jobs_is_check, times_is_check, list_is_check}
use Rattle.day.proofs.Unique.{numbering_unique}
use Rattle.planner.proofs.Unique.{plan_unique}
use Rattle.crowd.proofs.Unique.{crowd_unique}
use Rattle.claim.proofs.Unique.{judged_unique, priced_unique, next_unique, found_unique}
use Rattle.choice.proofs.Unique.{chosen_unique, handed_unique}
use Rattle.ledger.proofs.Unique.{ledgered_unique, shown_unique}
use Rattle.cutlist.proofs.Unique.{cut_rows_unique}
use Rattle.fieldday.proofs.Unique.{open_unique, advance_unique, add_unique, offer_unique}
use Rattle.moving.proofs.Unique.{moved_list_unique}
use Rattle.dayfile.proofs.Unique.{read_unique}
use Rattle.filewriter.proofs.Unique.{written_unique}
use Rattle.chaskuri.proofs.Unique.{moved_jobs_unique, read_jobs_unique, slot_numbers_unique}
use Rattle.text.proofs.Unique.{prints_unique}
use Rattle.report.proofs.Unique.{file_unique, report_unique}
use Rattle.std.specs.Prelude.{ℕ, zero, suc}
use Rattle.checks.specs.Answer.{answered_by, answered, checked}
use Rattle.checks.proofs.Refused.{outcome_unique}
use Rattle.choice.specs.Choice.{plan_number}
use Rattle.choice.specs.declared.Winner.{Winner}
use Rattle.choice.specs.declared.Winner.TheVariants.{Own, Server}
use Rattle.claim.specs.Rows.{claimed}
use Rattle.crowd.specs.Promise.{answered_span}
use Rattle.ledger.specs.Promise.{ledger_answer, slot_answer}
use Rattle.dayfile.specs.Reader.{as_reading}
use Rattle.report.specs.File.{outcome}
use Rattle.demands.specs.OneOutcome.{OneOutcome, OneResult}

both_same : {A B : Type 0} (x y : A × B) → x.0 ≡ y.0 → x.1 ≡ y.1 → x ≡ y
both_same x y a b = rw (a, b)

all_same : {A B C : Type 0} (x y : A × B × C) → x.0 ≡ y.0 → x.1 ≡ y.1 → x.2 ≡ y.2 → x ≡ y
all_same x y a b c = rw (a, b, c)

pub one_outcome : OneOutcome
one_outcome =
    record {
      check_slots = λ limit slots. passed_unique slots_is_check;
      check_power = λ power. passed_unique power_is_check;
      check_jobs = λ limit slots w. passed_unique jobs_is_check;
      check_times = λ slots w. passed_unique times_is_check;
      check_list = λ day w. passed_unique list_is_check;
      number_rows = numbering_unique;
      plan = λ day w starts table x y p q.
          give (plan_unique day w starts table x.0 y.0 x.1 x.2 y.1 y.2 p q)
          (λ s. all_same x y s.0 s.1 s.2);
      crowded_span = crowd_unique;
      judge = λ day w. judged_unique list_is_check w;
      price = λ day w. priced_unique list_is_check day w;
      which = λ day w. chosen_unique list_is_check day w;
      choose = λ day w. handed_unique list_is_check day w;
      next_job = next_unique;
      ledger = λ day w. ledgered_unique list_is_check day w;
      slot = λ day w. shown_unique list_is_check day w;
      cut_rows = cut_rows_unique;
      open_day = open_unique;
      advance = advance_unique;
      add = λ f release deadline table x y p q.
          give (add_unique f release deadline table x.0 y.0 x.1 y.1 p q) (λ s. both_same x y s.0 s.1);
      offer = offer_unique;
      move_list = λ slots by releases deadlines x y p q.
          give (moved_list_unique times_is_check p q) (λ s. all_same x y s.0 s.1 s.2);
      read = λ file releases deadlines x y p q. give (read_unique p q) (λ s. all_same x y s.0 s.1 s.2);
      write = λ notes day releases deadlines file x y p q. give (written_unique p q) (λ s. both_same x y s.0 s.1);
      move_jobs = λ slots by jobs x y p q.
          give (moved_jobs_unique slots by jobs x.0 y.0 x.1 y.1 p q) (λ s. both_same x y s.0 s.1);
      read_jobs = λ file jobs x y p q.
          give (read_jobs_unique file jobs x.0 y.0 x.1 y.1 p q) (λ s. both_same x y s.0 s.1);
      slot_numbers = slot_numbers_unique;
      plan_file = λ file starts table x y p q. give (file_unique file starts table p q) (λ s. all_same x y s.0 s.1 s.2);
      report = λ file table x y p q. give (report_unique file table p q) (λ s. both_same x y s.0 s.1);
      render = prints_unique;
    }

-- the plan of this number
abbrev plan_of : ℕ → Winner
plan_of zero = Own
plan_of (suc zero) = Own
plan_of (suc (suc n)) = Server

plan_back : (winner : Winner) → plan_of (plan_number winner) ≡ winner
plan_back Own = refl
plan_back Server = refl

pub one_result : OneResult
one_result =
    record {
      check = outcome_unique checked (λ a. a) (λ _. tt) (λ _. refl) (λ _. refl) (λ _. refl);
      cost = outcome_unique answered (λ a. a) (λ a. a.first) (λ _. refl) (λ _. refl) (λ _. refl);
      which = outcome_unique (answered_by plan_number) (λ a. a) (λ a. plan_of a.first) (λ _. refl) plan_back (λ _. refl);
      judge = outcome_unique claimed (λ c. c.answer) (λ c. c.rows) (λ _. refl) (λ _. refl) (λ _. refl);
      next_job = found_unique;
      crowded_span = outcome_unique answered_span (λ c. c.answer) (λ c. c.span) (λ _. refl) (λ _. refl) (λ _. refl);
      ledger = outcome_unique ledger_answer (λ c. c.answer) (λ c. c.counts) (λ _. refl) (λ _. refl) (λ _. refl);
      slot = outcome_unique slot_answer (λ c. c.answer) (λ c. c.held) (λ _. refl) (λ _. refl) (λ _. refl);
      read =
          outcome_unique as_reading (λ c. c.answer) (λ c. record { count = c.count; day = c.day }) (λ _. refl) (λ _. refl) (λ _. refl);
      plan_file =
          outcome_unique outcome (λ c. c.answer) (λ c. record { cost = c.answer.first; count = c.count; counts = c.counts }) (λ _. refl)
          (λ _. refl) (λ _. refl);
    }

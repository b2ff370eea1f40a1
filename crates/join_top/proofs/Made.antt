-- What each command makes of a program's book, and of the network of its code.
use Rattle.std.proofs.Common.{◌≡◌, ◌∙◌, ℕ, ◌≤◌, List, [], Result, Ok, Err, Some, IfOk, refl, sym}
use Rattle.std.proofs.Common.{ap, subst, length}
use Rattle.chem_model.specs.declared.event.Event.{Event}
use Rattle.chem_model.specs.declared.numbered.Numbered.{Numbered}
use Rattle.chem_model.specs.declared.memory.Memory.{Memory}
use Rattle.chem_model.specs.ProgramFacts.{ProgramTerms, IsProgram}
use Rattle.chem_model.specs.Opening.{opening}
use Rattle.env_store.specs.CodeParts.{CodeParts}
use Rattle.env_store.specs.CodeFacts.{IsCode}
use Rattle.env_store.specs.Reading.{IsCodeOf}
use Rattle.env_store.specs.Laws.{rules_of_group}
use Rattle.net_laws.specs.Net.{Stands}
use Rattle.net_laws.specs.Opened.{opened_net, RunsCode}
use Rattle.guard_compile.specs.Written.{code_of}
use Rattle.net_core.specs.Rounds.{RoundsReplay}
use Rattle.net_core.specs.Senders.{opened_froms}
use Rattle.net_core.specs.Whole.{NetParts}
use Rattle.trace_history.specs.Kept.{BookKept}
use Rattle.lossy_link.specs.OverBook.{RunsOverLinks, LossyOf, opened_parts}
use Rattle.lossy_link.specs.OverBook as links
use Rattle.lossy_link.specs.declared.schedule.LinkCounts.{LinkCounts}
use Rattle.site_runner.specs.Run.{RunsOn}
use Rattle.site_runner.specs.Schedule.{ScheduleOf}
use Rattle.site_runner.specs.Rounds.{StandForOne, RunsInRounds, RoundsOf}
use Rattle.site_runner.specs.Free.{IsFinished, IsFree, first_workers}
use Rattle.site_runner.specs.declared.outcome.Done.{Done}
use Rattle.site_runner.specs.declared.outcome.How.TheVariants as how
use Rattle.join_words.specs.declared.answer.By.TheVariants as by
use Rattle.join_top.specs.inside.Begun.{IsBegun}
use Rattle.join_top.specs.inside.Ran.{IsRunBy}

-- a program's book without an event
abbrev pub begun : ProgramTerms → BookKept
begun p = record { program = p; journal = [] }

module _ (p : ProgramTerms) (workers budget loss : ℕ) where
  -- a run on one thread from there
  alone_begun : (r : Result Done Memory)
      → IfOk r (λ (d : Done). RunsOn (begun p) budget d.book)
      → IfOk r
      (λ (d : Done). (begun p).journal ≡ [] → ScheduleOf (begun p).program budget d.book.journal)
      → IfOk r (λ (d : Done). d.how ≡ how.Alone)
      → IfOk r (IsRunBy by.Alone workers budget loss p)
  alone_begun (Err e) runs whole made = tt
  alone_begun (Ok d) runs whole made = record {
    finished = record { program = runs.program; within = runs.within; ends = runs.ends };
    made = (whole refl, made);
  }

  pub alone_made : (book : BookKept) (r : Result Done Memory) → book ≡ begun p
      → IfOk r (λ (d : Done). RunsOn book budget d.book)
      → IfOk r (λ (d : Done). book.journal ≡ [] → ScheduleOf book.program budget d.book.journal)
      → IfOk r (λ (d : Done). d.how ≡ how.Alone)
      → IfOk r (IsRunBy by.Alone workers budget loss p)
  alone_made book r e runs whole made =
      alone_begun r
      (subst (λ (b : BookKept). IfOk r (λ (d : Done). RunsOn b budget d.book)) e runs)
      (subst (λ (b : BookKept).
      IfOk r (λ (d : Done). b.journal ≡ [] → ScheduleOf b.program budget d.book.journal)) e whole)
      made

  module _ (fine : IsProgram p) where
    rounds_within : RoundsReplay → (c : CodeParts) (journal : List Event)
        → RoundsOf p c budget journal → length journal ≤ budget
    rounds_within law c journal (is_code, of_program, end, schedule) =
        (law p c fine is_code of_program budget journal end schedule).within

    -- a run in rounds from there
    rounds_begun : RoundsReplay → (net : NetParts) → net.net ≡ opened_net p.version net.code
        → net.code ≡ code_of p → (r : Result Done Memory)
        → IfOk r (λ (d : Done). RunsInRounds net (begun p) budget d.book)
        → IfOk r (λ (d : Done).
        (begun p).journal ≡ [] → net.net ≡ opened_net (begun p).program.version net.code
        → RoundsOf (begun p).program net.code budget d.book.journal)
        → IfOk r (λ (d : Done). d.how ≡ how.Rounds)
        → IfOk r (IsRunBy by.Rounds workers budget loss p)
    rounds_begun law net opened code (Err e) runs whole made = tt
    rounds_begun law net opened code (Ok d) runs whole made = record {
      finished = record {
        program = runs.program;
        within = rounds_within law net.code d.book.journal (whole refl opened);
        ends = runs.ends;
      };
      made = (
        subst (λ (c : CodeParts). RoundsOf p c budget d.book.journal) code (whole refl opened),
        made,
      );
    }

    pub rounds_made : RoundsReplay → (net : NetParts) → net.net ≡ opened_net p.version net.code
        → net.code ≡ code_of p → (book : BookKept) (r : Result Done Memory) → book ≡ begun p
        → IfOk r (λ (d : Done). RunsInRounds net book budget d.book)
        → IfOk r
        (λ (d : Done). book.journal ≡ [] → net.net ≡ opened_net book.program.version net.code
        → RoundsOf book.program net.code budget d.book.journal)
        → IfOk r (λ (d : Done). d.how ≡ how.Rounds)
        → IfOk r (IsRunBy by.Rounds workers budget loss p)
    rounds_made law net opened code book r e runs whole made =
        rounds_begun law net opened code r
        (subst (λ (b : BookKept). IfOk r (λ (d : Done). RunsInRounds net b budget d.book)) e runs)
        (subst (λ (b : BookKept).
        IfOk r (λ (d : Done). b.journal ≡ [] → net.net ≡ opened_net b.program.version net.code
        → RoundsOf b.program net.code budget d.book.journal)) e whole)
        made

same_member : (n m : Numbered) → Some n ≡ Some m → n ≡ m
same_member n m e = cc

-- the network that is opened from the program's code
pub net_begun : (p : ProgramTerms) (c : CodeParts) → c ≡ code_of p → IsCode c → IsCodeOf p c
    → (r : Result NetParts Memory)
    → IfOk r (λ (net : NetParts). net.net ≡ opened_net p.version c)
    → IfOk r (λ (net : NetParts). net.froms ≡ opened_froms p.version c)
    → IfOk r (λ (net : NetParts). net.code ≡ c) → IfOk r (λ (net : NetParts). net.events ≡ 0)
    → IfOk r (λ (net : NetParts). Stands (rules_of_group p) net.net (opening p))
    → IfOk r (λ (net : NetParts). RunsCode p net.code net.net) → IfOk r (IsBegun p)
net_begun p c is is_code of_program (Err e) opened froms code events stands runs = tt
net_begun p c is is_code of_program (Ok net) opened froms code events stands runs = record {
  code = code ∙ is;
  is_code = subst IsCode (sym code) is_code;
  of_program = subst (IsCodeOf p) (sym code) of_program;
  opened = subst (λ (x : CodeParts). net.net ≡ opened_net p.version x) (sym code) opened;
  froms = subst (λ (x : CodeParts). net.froms ≡ opened_froms p.version x) (sym code) froms;
  events = events;
  stands = stands;
  runs = runs;
}

-- the opening of a program's network and its book without an event stand for one solution
pub begun_stand : (p : ProgramTerms) (net : NetParts) → IsBegun p net → (book : BookKept)
    → book ≡ begun p → StandForOne book net
begun_stand p net is book e =
    let at : StandForOne (begun p) net = record {
      of_program = is.of_program;
      stand =
          λ n h. subst (Stands (rules_of_group p) net.net) (same_member (opening p) n h) is.stands;
      runs = is.runs;
      counted = is.events;
    } in
    subst (λ (b : BookKept). StandForOne b net) (sym e) at

-- a run on free threads
pub free_made : (p : ProgramTerms) (workers budget loss : ℕ) (r : Result Done Memory)
    → IfOk r (λ (d : Done). IsFinished p budget d.book)
    → IfOk r
    (λ (d : Done). IsFree (length p.sites) (first_workers workers) p budget d.book.journal d.how)
    → IfOk r (IsRunBy by.Run workers budget loss p)
free_made p workers budget loss (Err e) finished made = tt
free_made p workers budget loss (Ok d) finished made = record { finished = finished; made = made }

-- what stands for one solution for the run in rounds does so for the run over links
pub stand_for_links : (book : BookKept) (net : NetParts) → StandForOne book net
    → links.StandForOne book net
stand_for_links book net one = record {
  of_program = one.of_program;
  stand = one.stand;
  runs = one.runs;
  counted = one.counted;
}

-- the opened network of a code
opened_is : (net : NetParts) (version : ℕ) → net.net ≡ opened_net version net.code
    → net.froms ≡ opened_froms version net.code → net.events ≡ 0
    → net ≡ opened_parts version net.code
opened_is net version opened froms none =
    λ i. record { code = net.code; net = opened i; froms = froms i; events = none i }

-- a run over links from the opened network of the program's code
pub links_made :
    (p : ProgramTerms) (workers budget loss : ℕ) (net : NetParts)
    → net.net ≡ opened_net p.version net.code → net.froms ≡ opened_froms p.version net.code
    → net.code ≡ code_of p → (book last : BookKept) (counts : LinkCounts) → book ≡ begun p
    → links.StandForOne book net → RunsOverLinks net book budget loss last counts
    → (book.journal ≡ [] → net ≡ opened_parts book.program.version net.code
    → LossyOf book.program net.code budget loss last.journal counts)
    → IsRunBy by.Lossy workers budget loss p (record {
      book = last;
      how = how.Lossy counts.sent counts.lost counts.repeated counts.arrived;
    })
links_made p workers budget loss net opened froms code book last counts e one runs whole =
    let program : book.program ≡ p = ap (λ (b : BookKept). b.program) e in
    let bare : book.journal ≡ [] = ap (λ (b : BookKept). b.journal) e in
    let at_opening : net ≡ opened_parts p.version net.code =
    opened_is net p.version opened froms (one.counted ∙ ap length bare) in
    let of_opened : LossyOf book.program net.code budget loss last.journal counts =
    whole bare (subst (λ (q : ProgramTerms). net ≡ opened_parts q.version net.code) (sym program)
    at_opening) in
    record {
      finished = record {
        program = runs.program ∙ program;
        within = runs.within;
        ends = runs.ends;
      };
      made = (
        counts,
        subst (λ (c : CodeParts). LossyOf p c budget loss last.journal counts) code
            (subst (λ (q : ProgramTerms). LossyOf q net.code budget loss last.journal counts)
            program of_opened),
        refl,
      );
    }

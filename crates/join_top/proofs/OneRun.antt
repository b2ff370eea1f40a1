-- On one thread, in rounds and over links a program has one run for each budget.
use Rattle.std.proofs.Common.{◌≡◌, ◌∙◌, ap, sym}
use Rattle.guard_compile.specs.Written.{code_of}
use Rattle.lossy_link.specs.OverBook.{RunsWithoutLinksAreOne, RunsOverLinksAreOne}
use Rattle.lossy_link.specs.declared.schedule.LinkCounts.{LinkCounts}
use Rattle.net_core.specs.Scheduling.{SchedulesOfRoundsAreOne}
use Rattle.site_runner.specs.Schedule.{HasOneSchedule}
use Rattle.site_runner.specs.declared.outcome.How.TheVariants as how
use Rattle.join_words.specs.declared.answer.By.TheVariants as by
use Rattle.join_top.specs.RunJoin.{MakesOneRun, TellsOneCount}

pub alone_is_one : HasOneSchedule → MakesOneRun by.Alone
alone_is_one law p fine workers others budget loss other_loss journal other how told
    (one, _) (last, _) =
    let (least, is, only) = law p fine budget in
    only journal one ∙ sym (only other last)

pub rounds_are_one : SchedulesOfRoundsAreOne → MakesOneRun by.Rounds
rounds_are_one law p fine workers others budget loss other_loss journal other how told
    ((is_code, of_program, end, one), _) ((_, _, last, rest), _) =
    (law p (code_of p) fine is_code of_program budget journal other end last one rest).0

pub links_are_one : RunsWithoutLinksAreOne → MakesOneRun by.Lossy
links_are_one law p fine workers others budget loss other_loss journal other how told
    (counts, (is_code, of_program, end, one, _), _) (totals, (_, _, last, rest, _), _) =
    (law p (code_of p) fine is_code of_program budget journal other end last one rest).0

pub counts_are_one : RunsOverLinksAreOne → TellsOneCount
counts_are_one law p fine workers others budget loss journal other made told
    (counts, (is_code, of_program, end, _, one), is) (totals, (_, _, last, _, rest), so) =
    let same : counts ≡ totals =
    (law p (code_of p) fine is_code of_program budget loss journal other counts totals end last
    one rest).1 in
    is ∙ ap (λ (n : LinkCounts). how.Lossy n.sent n.lost n.repeated n.arrived) same ∙ sym so

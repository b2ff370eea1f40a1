use Rattle.chem_model.specs.Each.{Each}
use Rattle.site_solution.specs.declared.effects.Effects.{Effects}
use Rattle.migration.specs.Across.{IsMoveBetween}
use Rattle.reducer.proofs.Reactions.{if_ok}
use Rattle.site_turn.specs.declared.turn.Turn.TheVariants.{Did}
use Rattle.site_turn.specs.Mail.{IsMessageFlight}
use Rattle.site_turn.proofs.Acting.{crossing_sent}
use Rattle.site_turn.proofs.asks.after_crossing.Goals as goal

pub move_between-requires : goal.move_between-requires
move_between-requires c =
    let fits = c.requires.fits c.in-Did.field-0 c.in-Did.is in
    record {
      in_tree = c.requires.act.in_tree;
      in_code = c.requires.act.in_code;
      receiver = fits.act;
      may = c.requires.goes;
      hosted = fits.hosted;
      joins = fits.joins;
    }

pub returns-in-Did-clause-sends : goal.returns-in-Did-clause-sends
returns-in-Did-clause-sends c =
    let seen = c.args.code.now.seen in
    let t = c.args.tree.now in
    let from = c.args.site.now in
    let into = c.args.into.now in
    let a = c.args.asked.atom in
    let u = c.move_between.new.tree in
    let left = c.move_between.new.from in
    let new = c.move_between.new.into in
    if_ok (λ (e : Effects). IsMoveBetween seen a t from into u left new e)
    (λ (e : Effects). Each IsMessageFlight e.sends) c.move_between.result
    (λ e h. crossing_sent seen t from into a u left new e (Did 0) h) c.move_between.ensures.ok

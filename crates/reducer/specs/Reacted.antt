-- What a reaction leaves and hands out.
use Rattle.std.specs.Prelude.{ℕ, ◌≡◌, true, List, ◌++◌}
use Rattle.env_store.specs.CodeParts.{CodeParts}
use Rattle.env_store.specs.Running.{Ran, code_made}
use Rattle.loc_tree.specs.Tree.{Tree, IsFresh}
use Rattle.net_laws.specs.Site.{Site}
use Rattle.net_laws.specs.Net.{Addressed, with_births}
use Rattle.net_laws.specs.Posting.{Outcome}
use Rattle.net_laws.specs.ByCode.{args_of, run_here}
use Rattle.site_solution.specs.Held.{taken_at}
use Rattle.site_solution.specs.InTree.{is_in_tree}
use Rattle.site_solution.specs.InCode.{is_in_code}
use Rattle.site_solution.specs.Draws.{all_drawn}
use Rattle.site_solution.specs.Answers.{Answers, AreFlights}
use Rattle.site_solution.specs.declared.effects.Effects.{Effects}
use Rattle.reducer.specs.declared.pick.Pick.{Pick}
use Rattle.reducer.specs.Picks.{Picked}
use Rattle.reducer.specs.Fronts.{taken_by}
use Rattle.reducer.specs.Reacting.{IsOneEvent, ran_by, outcome_of}

-- the new site is that one, and the effects are those of the run
abbrev pub Reacts : CodeParts → Tree → Site → Pick → Picked → Site → Effects → Type 0
Reacts c t s p x new e =
    let a = ran_by c s x in Answers (outcome_of c t s p x) a.outs a.births new e

-- it is the pick's event, with the messages that the flights carry
pub record IsItsEvent (c : CodeParts) (t : Tree) (s : Site) (p : Pick) (x : Picked) (new : Site)
    (e : Effects) : Type 0 where
  pub sends : List Addressed
  pub flights : AreFlights sends e.sends
  pub event : IsOneEvent c t s p x new (record { sends = sends; outs = e.outs; births = e.births })

-- once the births are in the tree, all that a call over the site needs holds again; only the count
-- may have reached 2^63
pub record IsFit (c : CodeParts) (t : Tree) (s : Site) : Type 0 where
  pub there : is_in_tree t s ≡ true
  pub coded : is_in_code c t s ≡ true
  pub drawn : all_drawn s ≡ true
  pub fresh : IsFresh t s.number s.made

abbrev pub StaysFit : CodeParts → Tree → ℕ → Site → Effects → Type 0
StaysFit c t i new e = IsFit c (with_births t i e.births) new

-- What the site's index tells, as picks.
use Rattle.std.proofs.Common.{◌≡◌, ℕ, Option, Some, None}
use Rattle.std.specs.Prelude.{IfNone}
use Rattle.env_store.specs.CodeParts.{CodeParts}
use Rattle.env_store.specs.CodeFacts.{IsCode}
use Rattle.loc_tree.specs.Tree.{Tree}
use Rattle.net_laws.specs.Site.{Site}
use Rattle.site_solution.specs.Guards.{FiresAt, NothingFires, FiresFirst}
use Rattle.site_solution.specs.Guards as site
use Rattle.reducer.specs.declared.pick.Pick.{Pick}
use Rattle.reducer.specs.Picks.{Picked, Fires}
use Rattle.reducer.specs.Ready.{NoneFires, IsReady}
use Rattle.reducer.specs.inside.Searching.{pick_of}
use Rattle.reducer.specs.Reacting.{NoRuleReacts}
use Rattle.reducer.proofs.Quiet.{no_rule_reacts}

abbrev here : site.Picked → Picked
here x = record { group = x.group; level = x.level; guard = x.guard }

abbrev there : Picked → site.Picked
there x = record { group = x.group; level = x.level; guard = x.guard }

fires_here : (c : CodeParts) (t : Tree) (s : Site) (j n : ℕ) (x : site.Picked)
    → FiresAt c t s.groups j n x → Fires c t s (pick_of j n) (here x)
fires_here c t s j n x f =
    let p = f.covers.picks in
    record {
      covers = record {
        picks = record {
          group = p.group;
          level = p.level;
          guard = p.guard;
          from = p.from;
          below = p.below;
        };
        held = f.covers.held;
      };
      live = f.live;
    }

fires_there : (c : CodeParts) (t : Tree) (s : Site) (q : Pick) (y : Picked) → Fires c t s q y
    → FiresAt c t s.groups q.group q.guard (there y)
fires_there c t s q y f =
    let p = f.covers.picks in
    record {
      covers = record {
        picks = record {
          group = p.group;
          level = p.level;
          guard = p.guard;
          from = p.from;
          below = p.below;
        };
        held = f.covers.held;
      };
      live = f.live;
    }

pub none_told : (c : CodeParts) (t : Tree) (s : Site) → NothingFires c t s.groups → NoneFires c t s
none_told c t s none q y f = none q.group q.guard (there y) (fires_there c t s q y f)

pub found_told : (c : CodeParts) (t : Tree) (s : Site) (j n : ℕ) → FiresFirst c t s.groups j n
    → IsReady c t s (pick_of j n)
found_told c t s j n h = record {
  pick = here h.pick;
  fires = fires_here c t s j n h.pick h.fires;
  least = λ q y f. h.least q.group q.guard (there y) (fires_there c t s q y f);
  first = λ q y f e. h.first q.group q.guard (there y) (fires_there c t s q y f) e;
}

-- where nothing fires, no rule reacts
pub quiet_where : (c : CodeParts) (t : Tree) (s : Site) (r : Option Pick) → IsCode c
    → IfNone r (NoneFires c t s) → IfNone r (NoRuleReacts c t s)
quiet_where c t s None code none = no_rule_reacts c t s code none
quiet_where c t s (Some p) code none = tt

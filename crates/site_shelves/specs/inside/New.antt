-- Groups that are to come, with the memory that they take.
use Rattle.std.specs.Prelude.{◌≡◌, ℕ, ◌+◌, List, [], ◌∷◌, Option, Some, None, slice_get, slice_set}
use Rattle.std.specs.Prelude.{length}
use Rattle.net_laws.specs.Site.{Told, Group}
use Rattle.site_shelves.specs.declared.told.NewGroup.{NewGroup}
use Rattle.site_shelves.specs.Held.{without_fronts}

-- what is told of them
abbrev pub told_of_new : List NewGroup → List Told
told_of_new [] = []
told_of_new (r ∷ rs) = r.idle.told ∷ told_of_new rs

-- how many channels they have
abbrev pub widths : List NewGroup → ℕ
widths [] = 0
widths (r ∷ rs) = r.width + widths rs

-- what is told of it beside it is so
pub record IsNewGroup (r : NewGroup) : Type 0 where
  pub first : r.idle.told.inst.chans ≡ r.first
  pub home : r.idle.told.inst.loc ≡ r.home
  pub wide : r.idle.width ≡ r.width
  pub counts : length r.idle.told.counts ≡ r.width
  pub level : r.idle.told.inst.level ≡ r.level
  pub rules : r.idle.told.inst.rules ≡ r.rules

-- the groups without these fronts of one of them
abbrev pub gone_in : Option Group → ℕ → List ℕ → List Group → List Group
gone_in None j cs gs = gs
gone_in (Some g) j cs gs = slice_set gs j (record g { queues = without_fronts g.queues cs })

abbrev pub gone_at : ℕ → List ℕ → List Group → List Group
gone_at j cs gs = gone_in (slice_get gs j) j cs gs

-- Room for what an event hands out.
use Rattle.std.specs.Prelude.{◌≡◌, ℕ, ◌+◌, ◌<◌, ◌≤◌, ◌^◌}
use Rattle.std.specs.Prelude.{vec_len, vec_capacity}
use Rattle.std.specs.VecDeque.{deque_len, deque_capacity}
use Rattle.loc_tree.specs.Tree.{bare}
use Rattle.net_core.specs.declared.parts.Parts.{Parts}

-- all that the parts stand for is the same
pub record AreAsBefore (old new : Parts) : Type 0 where
  pub version : new.version ≡ old.version
  pub sites : new.sites.items ≡ old.sites.items
  pub tree : bare new.tree ≡ bare old.tree
  pub trace : new.trace.items ≡ old.trace.items
  pub flights : new.flights.items ≡ old.flights.items
  pub under_way : new.under_way ≡ old.under_way

-- there is room for so many births, for a piece of observables, and for so many packets
pub record HaveRoom (p : Parts) (births sends : ℕ) : Type 0 where
  pub spare : births ≤ p.tree.spare
  pub trace : vec_len p.trace < vec_capacity p.trace
  pub flights : deque_len p.flights + sends ≤ deque_capacity p.flights
  pub numbers : p.under_way + sends < 2 ^ 32

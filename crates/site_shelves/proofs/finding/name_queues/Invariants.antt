use Rattle.std.proofs.Common.{◌≡◌, ℕ, ◌+◌, ◌-◌, ◌≤◌, cond, Some}
use Rattle.std.specs.HashMap as hash
use Rattle.std.specs.HashMap.{spare}
use Rattle.chem_model.specs.declared.name.Loc.{Loc}
use Rattle.site_shelves.specs.inside.Index.{same_key, key_of, is_one_of}
use Rattle.site_shelves.proofs.finding.name_queues.Given as goal

abbrev pub invariant-loop-chan : goal.invariant-loop-chan
invariant-loop-chan l = record {
  named : (site k : ℕ) (at : Loc)
      → hash.get same_key l.spots.marks (key_of site k at)
      ≡ cond (is_one_of l.first.site l.first.k l.chan l.home site k at)
      (Some (record { serial = l.serial; chan = k - l.first.k }))
      (hash.get same_key l.fn.spots.marks (key_of site k at));
  room : spare l.fn.spots.marks ≤ spare l.spots.marks + l.chan;
  serials : l.spots.serials ≡ l.fn.spots.serials;
  next : l.spots.next ≡ l.fn.spots.next;
}

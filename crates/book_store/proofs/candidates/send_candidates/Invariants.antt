use Rattle.std.proofs.Common.{◌≡◌, take}
use Rattle.chem_model.specs.Each.{IsIn}
use Rattle.book_store.specs.Keys.{Key, KeepsKeys}
use Rattle.book_store.proofs.candidates.send_candidates.Given as goal

-- places stay, sites are kept, and each key that was looked at has one at the site
abbrev pub invariant-loop-key : goal.invariant-loop-key
invariant-loop-key l =
    KeepsKeys l.fn.candidates.sites.keys l.candidates.sites.keys
    × (l.candidates.places.keys ≡ l.fn.candidates.places.keys)
    × ((k : Key) → IsIn k (take l.key-index l.key-items)
    → IsIn {X = Key} (l.to, k.1) l.candidates.sites.keys)

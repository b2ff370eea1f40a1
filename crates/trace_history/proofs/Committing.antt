-- A book before and after an event: what it holds, and what its store keeps.
use Rattle.std.proofs.Common.{◌≡◌, List, Option, Some, refl, sym, subst, arith}
use Rattle.chem_model.specs.declared.numbered.NumberedAtom.{NumberedAtom}
use Rattle.chem_model.specs.declared.numbered.Numbered.{Numbered}
use Rattle.chem_model.specs.Each.{IsIn}
use Rattle.chem_model.specs.Sound.{IsSound}
use Rattle.trace_history.specs.inside.Holds.{Holds}
use Rattle.book_store.specs.Older.{whole}
use Rattle.book_store.specs.Stored.{IsStored, IsEmpty, Moves}
use Rattle.book_store.specs.declared.store.Store.{Store}
use Rattle.trace_history.proofs.Holding.{holds_on}

-- where messages and requests only moved, it holds what it held
pub moved_holds : (o : Option Numbered) (n m : Numbered) (s t : Store)
    → Holds o s.older.table n → Moves n s m t → Holds o t.older.table m
moved_holds o n m s t h k = subst (Holds o t.older.table) (sym k.rest)
    (holds_on o s.older.table t.older.table m.atoms n h k.keeps)

-- at the beginning the store is right
pub empty_stored : (n : Numbered) (s : Store) → IsEmpty s → IsStored n s
empty_stored n s e = record {
  watched = record {
    within = omega (arith, e.noted);
    each = λ j r low at. absurd (omega (arith, e.noted, low));
  };
  asked = λ a at. absurd (subst (IsIn a) e.table at);
}

pub stored_as : (n m : Numbered) (s : Store) → n ≡ m → IsStored n s → IsStored m s
stored_as n m s same h = subst (λ (x : Numbered). IsStored x s) same h

-- what was set apart of an opening is held for it
pub opened_holds : (n m : Numbered) (s t : Store) → IsSound n → IsEmpty s → Moves n s m t
    → Holds (Some n) t.older.table m
opened_holds n m s t sound e k = moved_holds (Some n) n m s t
    (subst (λ (xs : List NumberedAtom). Holds (Some n) xs n) (sym e.table) (record {
      left = n;
      replays = refl;
      rest = refl;
      alike = λ i. refl;
      differ = λ p. omega (arith, sound.different p);
    })) k

-- nothing was set apart of it
pub empty_whole : (n : Numbered) (s : Store) → IsEmpty s → IsSound n
    → IsSound (whole s.older.table n)
empty_whole n s e sound =
    subst (λ (xs : List NumberedAtom). IsSound (whole xs n)) (sym e.table) sound

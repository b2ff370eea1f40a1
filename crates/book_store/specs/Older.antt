-- Older messages and requests, which stand apart from the newest ones, with keys by which the least
-- message on a channel is found.
use Rattle.std.specs.Prelude.{ℕ, List, [], ◌∷◌, ◌++◌, Option, Some, None, Bool, true, cond, ◌==◌}
use Rattle.std.specs.Prelude.{◌&&◌}
use Rattle.std.specs.List.{list_any, list_all}
use Rattle.chem_model.specs.declared.name.Loc.{Loc}
use Rattle.chem_model.specs.declared.name.Pat.{Pat}
use Rattle.chem_model.specs.declared.event.AtomId.{AtomId}
use Rattle.chem_model.specs.declared.event.Event.{Event}
use Rattle.chem_model.specs.declared.event.Event.TheVariants as event
use Rattle.chem_model.specs.declared.numbered.NumberedAtom.{NumberedAtom}
use Rattle.chem_model.specs.declared.numbered.Numbered.{Numbered}
use Rattle.chem_model.specs.Apply.{atom_at}
use Rattle.chem_commit.specs.inside.Differ.{AtomsDiffer}
use Rattle.chem_causes.specs.Lefts.{is_before}
use Rattle.chem_causes.specs.Ready.{receives}
use Rattle.book_store.specs.Alike.{AreAlike}
use Rattle.book_store.specs.Keys.{Key, channel_of}

-- a message of this channel with this number has its key, and a request has none
abbrev pub same_key : Key → Key → Bool
same_key x y = (x.0 == y.0) && ((x.1.0 == y.1.0) && (x.1.1 == y.1.1))

abbrev pub has_key : List Key → Option ℕ → AtomId → Bool
has_key keys None i = true
has_key keys (Some c) i = list_any (same_key (c, (i.site, i.k))) keys

-- one side alone: each of these that is a message has its key. Other keys may stand there too
abbrev pub are_queued : List NumberedAtom → List Key → Bool
are_queued old keys = list_all (λ (a : NumberedAtom). has_key keys (channel_of a.term) a.id) old

-- the solution with the older messages
abbrev pub whole : List NumberedAtom → Numbered → Numbered
whole old n = record n { atoms = old ++ n.atoms }

-- messages went from the ones to the others: each number finds what it found, and none stands twice
pub record Keeps (old xs new ys : List NumberedAtom) : Type 0 where
  pub alike : AreAlike (old ++ xs) (new ++ ys)
  pub differ : AtomsDiffer (new ++ ys)

-- ---- the least message on a channel

-- the one with the lesser number comes first
abbrev pub atom_before : NumberedAtom → NumberedAtom → Bool
atom_before a b = is_before a.id b.id

abbrev pub passing : Loc → Pat → Option NumberedAtom → Option NumberedAtom
passing l p None = None
passing l p (Some a) = cond (receives l p a) (Some a) None

-- the message for which a key stands, where the pattern receives it
abbrev pub find_at : Loc → Pat → List NumberedAtom → Key → Option NumberedAtom
find_at l p old key = passing l p (atom_at old (record { site = key.1.0; k = key.1.1 }))

-- the messages or the request that an event takes
abbrev pub takes : Event → List AtomId
takes (event.React i took) = took
takes (event.Move i) = i ∷ []
takes (event.Halt i) = i ∷ []
takes (event.Detect i) = i ∷ []

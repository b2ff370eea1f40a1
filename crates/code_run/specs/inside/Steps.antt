-- What the parts of running promise.
use Rattle.std.specs.Prelude.{◌≡◌, ℕ, ◌<◌, List, [], ◌∷◌, ◌++◌, length, slice_get}
use Rattle.chem_model.specs.declared.name.Loc.{Loc}
use Rattle.chem_model.specs.declared.name.Name.{Name}
use Rattle.chem_model.specs.Process as term
use Rattle.chem_model.specs.Pour.{message_made, atom_made}
use Rattle.env_store.specs.declared.code.Instr.{Instr}
use Rattle.env_store.specs.declared.code.Instr.TheVariants.{Send, Enter, Leave, Go, Fail, Halt}
use Rattle.env_store.specs.CodeParts.{CodeParts}
use Rattle.env_store.specs.CodeFacts.{Fits}
use Rattle.env_store.specs.Running.{Ran, nothing_ran, atom_ran, ref_at, refs_at, Making}
use Rattle.env_store.specs.Running.{NumberedLevel, block_names, block_laid, block_entered}
use Rattle.env_store.specs.Running.{without_last}
use Rattle.net_laws.specs.Posting.{posted_of}
use Rattle.code_run.specs.declared.made.Run.{Run}
use Rattle.code_run.specs.Posts.{posts_of}

-- what is made is added to what was made before, which draws its numbers first
abbrev pub Adds : Run → Run → Ran → Type 0
Adds old new a =
    (new.next ≡ a.next)
    × (new.births ≡ old.births ++ a.births)
    × (new.groups ≡ old.groups ++ a.groups)
    × (new.posts ≡ old.posts ++ posts_of (posted_of a.atoms))
    × (new.outs ≡ old.outs ++ a.outs)

-- ---- a block

-- a number of a level of the code
abbrev pub IsThere : CodeParts → ℕ → Type 0
IsThere c n = n < length c.levels

-- the names of a block by its levels, the first of which is its own list
abbrev pub levels_named : ℕ → Loc → ℕ → List NumberedLevel → List Name
levels_named s l k [] = []
levels_named s l k (v ∷ vs) = block_names s l k v vs

-- what laying it makes, where its naming took the numbers from k on below n
abbrev pub levels_laid : Making → ℕ → List Name → Loc → ℕ → ℕ → List NumberedLevel → Ran
levels_laid M s env l k n [] = nothing_ran n
levels_laid M s env l k n (v ∷ vs) = block_laid M s env l k n v vs

-- ---- one instruction

-- it is the first of some that fit
abbrev pub FitsFirst : CodeParts → ℕ → Instr → Type 0
FitsFirst c d i = (open_blocks : List ℕ) × (is : List Instr) × Fits c d open_blocks (i ∷ is)

module _ (c : CodeParts) (M : Making) (s : ℕ) where
  -- what it makes
  abbrev pub instr_ran : Instr → List Name → Loc → ℕ → Ran
  instr_ran (Send on args) env l k =
      atom_ran (message_made c.seen s l k (ref_at env on) (refs_at env args))
  instr_ran (Enter b) env l k = (block_entered c M s env l k (slice_get c.blocks b)).ran
  instr_ran (Leave n) env l k = nothing_ran k
  instr_ran (Go b j) env l k = atom_ran (atom_made s l k (term.Go (ref_at env b) (ref_at env j)))
  instr_ran (Fail b j) env l k =
      atom_ran (atom_made s l k (term.Fail (ref_at env b) (ref_at env j)))
  instr_ran Halt env l k = atom_ran (atom_made s l k term.Halt)

  -- the environment behind it
  abbrev pub env_behind : Instr → List Name → Loc → ℕ → List Name
  env_behind (Send on args) env l k = env
  env_behind (Enter b) env l k = env ++ (block_entered c M s env l k (slice_get c.blocks b)).names
  env_behind (Leave n) env l k = without_last n env
  env_behind (Go b j) env l k = env
  env_behind (Fail b j) env l k = env
  env_behind Halt env l k = env

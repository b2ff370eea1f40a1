-- The length of the environment at each instruction of a body that fits: what whoever runs code
-- needs to look up its slots.
use Rattle.std.proofs.Common.{◌≡◌, ℕ, ◌+◌, List, [], ◌∷◌, length, Some, refl, sym, ◌∙◌, arith}
use Rattle.std.proofs.Common.{length-append}
use Rattle.chem_model.specs.declared.name.Loc.{Loc}
use Rattle.chem_model.specs.declared.name.Name.{Name}
use Rattle.env_store.specs.declared.code.Block.{Block}
use Rattle.env_store.specs.CodeParts.{CodeParts}
use Rattle.env_store.specs.CodeFacts.{place_names_made, names_made, IsBlockAt}
use Rattle.env_store.specs.Running.{NumberedLevel, numbered_levels, loc_at, channel_names}
use Rattle.env_store.specs.Running.{place_names, after_place, Making, block_entered, levels_entered}
use Rattle.env_store.proofs.NamingOrder.{channels_long}

place_names_long : (s k : ℕ) (vs : List NumberedLevel)
    → length (place_names s k vs) ≡ place_names_made vs
place_names_long s k [] = refl
place_names_long s k (v ∷ vs) =
    let q = loc_at s k in
    let own = channel_names s q (k + 1) v.level.counts in
    let rest = place_names s (after_place k v.level) vs in
    omega (
      arith,
      channels_long s q (k + 1) v.level.counts,
      place_names_long s (after_place k v.level) vs,
      length-append own rest,
    )

levels_entered_long :
    (M : Making) (s : ℕ) (env : List Name) (l : Loc) (k : ℕ) (vs : List NumberedLevel)
    → length (levels_entered M s env l k vs).names ≡ names_made vs
levels_entered_long M s env l k [] = refl
levels_entered_long M s env l k (v ∷ vs) =
    let cs = v.level.counts in
    omega (
      arith,
      channels_long s l k cs,
      place_names_long s (k + length cs) vs,
      length-append (channel_names s l k cs) (place_names s (k + length cs) vs),
    )

-- a block makes as many names as it says
pub block_entered_long :
    (c : CodeParts) (M : Making) (s : ℕ) (env : List Name) (l : Loc) (k b : ℕ) (block : Block)
    → IsBlockAt c b block → length (block_entered c M s env l k (Some block)).names ≡ block.names
block_entered_long c M s env l k b block is =
    levels_entered_long M s env l k (numbered_levels c.levels block.levels) ∙ sym is.names

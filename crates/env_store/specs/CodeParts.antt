-- What contracts see of a program's code.
use Rattle.std.specs.Prelude.{ℕ, List}
use Rattle.chem_model.specs.declared.name.Loc.{Loc}
use Rattle.env_store.specs.declared.code.Instr.{Instr}
use Rattle.env_store.specs.declared.code.Guard.{Guard}
use Rattle.env_store.specs.declared.code.Level.{Level}
use Rattle.env_store.specs.declared.code.Block.{Block}
use Rattle.env_store.specs.declared.code.SiteCode.{SiteCode}

pub record CodeParts : Type 0 where
  pub guards : List Guard
  pub levels : List Level
  pub blocks : List Block
  pub bodies : List (List Instr)
  pub seen : List ℕ
  pub tops : List Loc
  pub sites : List SiteCode

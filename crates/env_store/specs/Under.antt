-- Reading with names in hand: instructions that are, under an environment, a filled process. The
-- body of a `def` is read for every list of new names.
use Rattle.std.specs.Prelude.{◌≡◌, ℕ, List, [], ◌∷◌, ◌++◌, Some, length, slice_get}
use Rattle.chem_model.specs.declared.name.Name.{Name}
use Rattle.chem_model.specs.declared.name.Ref.{Ref}
use Rattle.chem_model.specs.Process.{Process, Msg, Par, Def, Go, Fail, Halt}
use Rattle.chem_model.specs.Process.{Processes, none, one_more}
use Rattle.chem_model.specs.Fill.{Naming, fill_ref, fill_refs}
use Rattle.chem_model.specs.Reduction.{given}
use Rattle.env_store.specs.declared.code.Slot.{Slot}
use Rattle.env_store.specs.declared.code.Instr.{Instr}
use Rattle.env_store.specs.declared.code.Instr.TheVariants as instr
use Rattle.env_store.specs.declared.code.Block.{Block}
use Rattle.env_store.specs.CodeParts.{CodeParts}
use Rattle.env_store.specs.Layout.{order}
use Rattle.env_store.specs.Running.{ref_at, refs_at}

-- one `Send`, whose slots hold the names of the message
pub record MessageUnder (m : Naming) (env : List Name) (x : Ref) (vs : List Ref)
    (is rest : List Instr) : Type 0 where
  pub on : Slot
  pub args : List Slot
  pub sends : is ≡ instr.Send on args ∷ rest
  pub on_is : ref_at env on ≡ fill_ref m x
  pub args_are : refs_at env args ≡ fill_refs m vs

-- one request, whose slots hold its names
pub record RequestUnder (m : Naming) (env : List Name) (made : Slot → Slot → Instr) (x k : Ref)
    (is rest : List Instr) : Type 0 where
  pub target : Slot
  pub cont : Slot
  pub asks : is ≡ made target cont ∷ rest
  pub target_is : ref_at env target ≡ fill_ref m x
  pub cont_is : ref_at env cont ≡ fill_ref m k

-- the `Enter` of a block that makes so many names
pub record EntersBlock (c : CodeParts) (names : ℕ) (is inner : List Instr) : Type 0 where
  pub number : ℕ
  pub block : Block
  pub is_there : slice_get c.blocks number ≡ Some block
  pub many : block.names ≡ names
  pub enters : is ≡ instr.Enter number ∷ inner

module _ (c : CodeParts) where
  -- the instructions `is` are, under the environment, the process filled by m, followed by `rest`
  abbrev mutual
    pub Under : Naming → List Name → Process → List Instr → List Instr → Type 0
    Under m env (Msg x vs) is rest = MessageUnder m env x vs is rest
    Under m env (Par ps) is rest = AllUnder m env ps is rest
    Under m env (Def ds p) is rest =
        let n = length (order ds) in
        (inner : List Instr)
        × EntersBlock c n is inner
        × ((ns : List Name) → length ns ≡ n
        → Under (m ++ given (order ds) ns) (env ++ ns) p inner (instr.Leave n ∷ rest))
    Under m env (Go b k) is rest = RequestUnder m env (λ u v. instr.Go u v) b k is rest
    Under m env (Fail b k) is rest = RequestUnder m env (λ u v. instr.Fail u v) b k is rest
    Under m env Halt is rest = is ≡ instr.Halt ∷ rest

    pub AllUnder : Naming → List Name → Processes → List Instr → List Instr → Type 0
    AllUnder m env none is rest = is ≡ rest
    AllUnder m env (one_more p ps) is rest =
        (mid : List Instr) × Under m env p is mid × AllUnder m env ps mid rest

  -- the body with the number j is, under the environment, the process filled by m
  pub record BodyUnder (m : Naming) (env : List Name) (p : Process) (j : ℕ) : Type 0 where
    pub instrs : List Instr
    pub is_there : slice_get c.bodies j ≡ Some instrs
    pub under : Under m env p instrs []

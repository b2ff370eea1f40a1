-- What is read under a layout is read under each environment of its length.
use Rattle.std.proofs.Common.{◌≡◌, ℕ, List, ◌∷◌, ◌++◌, length, sym, ap, ◌∙◌, subst, arith}
use Rattle.std.proofs.Common.{append_assoc, length-append}
use Rattle.chem_model.specs.declared.name.Name.{Name}
use Rattle.chem_model.specs.Process.{Process, Msg, Par, Def, Go, Fail, Halt, Processes, none}
use Rattle.chem_model.specs.Process.{one_more}
use Rattle.chem_model.specs.Fill.{Naming}
use Rattle.chem_model.specs.Reduction.{given}
use Rattle.env_store.specs.declared.code.Instr.{Instr}
use Rattle.env_store.specs.declared.code.Instr.TheVariants as instr
use Rattle.env_store.specs.Layout.{LevelTerm, order}
use Rattle.env_store.specs.CodeParts.{CodeParts}
use Rattle.env_store.specs.Reading.{Reads, ReadsAll}
use Rattle.env_store.specs.Under.{Under, AllUnder}
use Rattle.env_store.proofs.Slots.{slot_law, slots_law}
use Rattle.env_store.proofs.NamingOrder.{given-append}

module _ (c : CodeParts) (levels : List LevelTerm) (tops : Naming) where
  mutual
    pub reads_under : (p : Process) (y : List ℕ) (env : List Name) (is rest : List Instr)
        → length env ≡ length y → Reads c levels tops y p is rest
        → Under c (tops ++ given y env) env p is rest
    reads_under (Msg x vs) y env is rest e h = record {
      on = h.on;
      args = h.args;
      sends = h.sends;
      on_is = slot_law tops y env e x h.on h.on_is;
      args_are = slots_law tops y env e vs h.args h.args_are;
    }
    reads_under (Par ps) y env is rest e h = all_under ps y env is rest e h
    reads_under (Def ds p) y env is rest e h =
        let leave = instr.Leave (length (order ds)) in (
          h.0,
          record {
            number = h.1.number;
            block = h.1.block;
            is_there = h.1.is_there;
            many = h.1.reads.names;
            enters = h.1.enters;
          },
          λ ns f.
              let long : length (env ++ ns) ≡ length (y ++ order ds) =
              omega (arith, length-append env ns, length-append y (order ds)) in
              let same : tops ++ given (y ++ order ds) (env ++ ns)
              ≡ (tops ++ given y env) ++ given (order ds) ns =
              ap (λ m. tops ++ m) (given-append y (order ds) env ns e)
              ∙ sym (append_assoc tops (given y env) (given (order ds) ns)) in
              subst (λ m. Under c m (env ++ ns) p h.0 (leave ∷ rest)) same
              (reads_under p (y ++ order ds) (env ++ ns) h.0 (leave ∷ rest) long h.2),
        )
    reads_under (Go b k) y env is rest e h = record {
      target = h.target;
      cont = h.cont;
      asks = h.asks;
      target_is = slot_law tops y env e b h.target h.target_is;
      cont_is = slot_law tops y env e k h.cont h.cont_is;
    }
    reads_under (Fail b k) y env is rest e h = record {
      target = h.target;
      cont = h.cont;
      asks = h.asks;
      target_is = slot_law tops y env e b h.target h.target_is;
      cont_is = slot_law tops y env e k h.cont h.cont_is;
    }
    reads_under Halt y env is rest e h = h

    pub all_under : (ps : Processes) (y : List ℕ) (env : List Name) (is rest : List Instr)
        → length env ≡ length y → ReadsAll c levels tops y ps is rest
        → AllUnder c (tops ++ given y env) env ps is rest
    all_under none y env is rest e h = h
    all_under (one_more p ps) y env is rest e h =
        (h.0, reads_under p y env is h.0 e h.1, all_under ps y env h.0 rest e h.2)

-- How the logic stores code: as the tuple of its parts. What the model of `Code` is made of.
use Rattle.std.specs.Prelude.{ℕ, List, refl}
use Rattle.std.specs.Coded.{Coded, code_by, coded×, coded_list, coded_ℕ}
use Rattle.chem_model.specs.declared.name.Loc.{Loc}
use Rattle.chem_model.specs.contracts.name.Loc as loc
use Rattle.env_store.specs.declared.code.Instr.{Instr}
use Rattle.env_store.specs.declared.code.Guard.{Guard}
use Rattle.env_store.specs.declared.code.Level.{Level}
use Rattle.env_store.specs.declared.code.Block.{Block}
use Rattle.env_store.specs.declared.code.SiteCode.{SiteCode}
use Rattle.env_store.specs.contracts.code.Instr as instr
use Rattle.env_store.specs.contracts.code.Guard as guard
use Rattle.env_store.specs.contracts.code.Level as level
use Rattle.env_store.specs.contracts.code.Block as block
use Rattle.env_store.specs.contracts.code.SiteCode as site
use Rattle.env_store.specs.CodeParts.{CodeParts}

abbrev pub Tuple : Type 0
Tuple =
    List Guard
    × (List Level
    × (List Block
    × (List (List Instr)
    × (List ℕ
    × (List Loc
    × List SiteCode)))))

abbrev pub coded_tuple : Coded Tuple
coded_tuple =
    coded× (coded_list guard.the_row.coded)
    (coded× (coded_list level.the_row.coded)
    (coded× (coded_list block.the_row.coded)
    (coded× (coded_list (coded_list instr.the_row.coded))
    (coded× (coded_list coded_ℕ)
    (coded× (coded_list loc.the_row.coded)
    (coded_list site.the_row.coded))))))

abbrev pub tuple_of : CodeParts → Tuple
tuple_of c = (c.guards, (c.levels, (c.blocks, (c.bodies, (c.seen, (c.tops, c.sites))))))

abbrev pub parts_of : Tuple → CodeParts
parts_of t = record {
  guards = t.0;
  levels = t.1.0;
  blocks = t.1.1.0;
  bodies = t.1.1.1.0;
  seen = t.1.1.1.1.0;
  tops = t.1.1.1.1.1.0;
  sites = t.1.1.1.1.1.1;
}

abbrev pub code_stored : Coded CodeParts
code_stored = code_by Tuple coded_tuple tuple_of parts_of (λ _. refl)

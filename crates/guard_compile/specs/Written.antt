-- The code of a program as a function of it. That it reads as the program, and keeps the facts of
-- code, is proved above it.
use Rattle.std.specs.Prelude.{ℕ, ◌+◌, ◌*◌, ◌/◌, ◌%◌, ◌^◌, List, [], ◌∷◌, ◌++◌, Option, Some, None}
use Rattle.std.specs.Prelude.{length, replicate, slice_set, slice_index, bit_or}
use Rattle.chem_model.specs.declared.name.Ref.{Ref}
use Rattle.chem_model.specs.declared.name.Ref.TheVariants.{Binder, Known}
use Rattle.chem_model.specs.declared.name.Pat.{Pat}
use Rattle.chem_model.specs.Process.{Process, Msg, Par, Def, Go, Fail, Halt, Processes, none}
use Rattle.chem_model.specs.Process.{one_more, Definition, Rule, Place, Definitions, no_definition}
use Rattle.chem_model.specs.Process.{and_also}
use Rattle.chem_model.specs.Binders.{binder_of, params_of}
use Rattle.chem_model.specs.Fill.{Naming}
use Rattle.env_store.specs.declared.code.Slot.{Slot}
use Rattle.env_store.specs.declared.code.Slot.TheVariants as slot
use Rattle.env_store.specs.declared.code.Instr.{Instr}
use Rattle.env_store.specs.declared.code.Instr.TheVariants as instr
use Rattle.env_store.specs.declared.code.Guard.{Guard}
use Rattle.env_store.specs.declared.code.Level.{Level}
use Rattle.env_store.specs.declared.code.Block.{Block}
use Rattle.guard_compile.specs.declared.write.At.{At}
use Rattle.guard_compile.specs.declared.write.Piece.{Piece}
use Rattle.guard_compile.specs.declared.write.Defined.{Defined}
use Rattle.env_store.specs.Layout.{rules_in, births_in, sends_in, new_channels, new_counts}
use Rattle.env_store.specs.Layout.{place_order, place_in, order}
use Rattle.env_store.specs.declared.code.SiteCode.{SiteCode}
use Rattle.env_store.specs.CodeParts.{CodeParts}
use Rattle.env_store.specs.Masks.{number_of_words}
use Rattle.env_store.specs.Reading.{position, slot_of, locs_in}
use Rattle.chem_model.specs.declared.program.SiteTerm.{SiteTerm}
use Rattle.chem_model.specs.Process as term
use Rattle.chem_model.specs.ProgramFacts.{ProgramTerms}
use Rattle.chem_model.specs.Opening.{site_names, counts_of}

-- ---- slots and channels: what isn't in scope has none, and stands for anything

abbrev pub some_slot : Option Slot → Slot
some_slot None = slot.Env 0
some_slot (Some s) = s

abbrev pub some_place : Option ℕ → ℕ
some_place None = 0
some_place (Some i) = i

abbrev pub channel_of : List ℕ → Ref → ℕ
channel_of channels (Binder b) = some_place (position channels b)
channel_of channels (Known n) = 0

abbrev pub channels_of : List ℕ → List Pat → List ℕ
channels_of channels [] = []
channels_of channels (p ∷ ps) = channel_of channels p.on ∷ channels_of channels ps

-- ---- masks

-- the words with one bit more
abbrev pub with_bit : List ℕ → ℕ → List ℕ
with_bit words i =
    let bit = 1 * 2 ^ (i % 64) % 2 ^ 64 in
    slice_set words (i / 64) (bit_or (slice_index words (i / 64)) bit)

abbrev pub with_bits : List ℕ → List ℕ → List ℕ
with_bits words [] = words
with_bits words (i ∷ is) = with_bits (with_bit words i) is

-- the mask of these channels, where the level has so many
abbrev pub mask_of : ℕ → List ℕ → List ℕ
mask_of n is = with_bits (replicate (number_of_words n) 0) is

-- ---- the next number of each list

-- the numbers behind a level with so many guards
abbrev pub behind : At → ℕ → At
behind at n = record {
  level = at.level + 1;
  guard = at.guard + n;
  block = at.block;
  body = at.body;
}

-- the numbers behind a block
abbrev pub inside : At → At
inside at = record { level = at.level; guard = at.guard; block = at.block + 1; body = at.body }

-- the numbers behind a body
abbrev pub above : At → At
above at = record { level = at.level; guard = at.guard; block = at.block; body = at.body + 1 }

-- the first numbers
abbrev pub zero_at : At
zero_at = record { level = 0; guard = 0; block = 0; body = 0 }

-- ---- members of the lists, and the next numbers behind them

abbrev pub no_piece : At → Piece
no_piece at = record { next = at; levels = []; guards = []; blocks = []; bodies = [] }

abbrev pub join : Piece → Piece → Piece
join a b = record {
  next = b.next;
  levels = a.levels ++ b.levels;
  guards = a.guards ++ b.guards;
  blocks = a.blocks ++ b.blocks;
  bodies = a.bodies ++ b.bodies;
}

-- a body that is done
abbrev pub body_piece : At → List Instr → Piece
body_piece at is = record {
  next = above at;
  levels = [];
  guards = [];
  blocks = [];
  bodies = is ∷ [];
}

-- a level with its guards, before what is within it
abbrev pub level_piece : At → ℕ → Level → List Guard → Piece
level_piece at n v gs = record {
  next = behind at n;
  levels = v ∷ [];
  guards = gs;
  blocks = [];
  bodies = [];
}

-- a block with its first level
abbrev pub block_piece : At → ℕ → Level → List Guard → Block → Piece
block_piece at n v gs b = record {
  next = behind (inside at) n;
  levels = v ∷ [];
  guards = gs;
  blocks = b ∷ [];
  bodies = [];
}

-- ---- what a process adds to the lists, and its instructions

pub record Wrote : Type 0 where
  pub piece : Piece
  pub instrs : List Instr

-- what definitions add: the guards of their rules, the numbers of their places' levels, and all
-- that is within
abbrev pub no_definitions : At → Defined
no_definitions at = record { guards = []; places = []; piece = no_piece at }

abbrev pub join_defined : Defined → Defined → Defined
join_defined a b = record {
  guards = a.guards ++ b.guards;
  places = a.places ++ b.places;
  piece = join a.piece b.piece;
}

pub record WroteSites : Type 0 where
  pub piece : Piece
  pub sites : List SiteCode

module _ (tops : Naming) where
  abbrev pub slot_or : List ℕ → Ref → Slot
  slot_or y x = some_slot (slot_of tops y x)

  abbrev pub slots_or : List ℕ → List Ref → List Slot
  slots_or y [] = []
  slots_or y (v ∷ vs) = slot_or y v ∷ slots_or y vs

  abbrev pub wrote_one : At → Instr → Wrote
  wrote_one at i = record { piece = no_piece at; instrs = i ∷ [] }

  -- a process that is a body of its own
  abbrev pub with_body : Wrote → Piece
  with_body w = join w.piece (body_piece w.piece.next w.instrs)

  -- the guard of a rule of the level n, whose channels are these
  abbrev pub guard_of : ℕ → List ℕ → List Pat → Process → Wrote → Guard
  guard_of n channels ps p w = record {
    level = n;
    mask = record { words = mask_of (length channels) (channels_of channels ps) };
    chans = channels_of channels ps;
    body = w.piece.next.body;
    births = births_in p;
    sends = sends_in p;
  }

  abbrev pub level_of : At → ℕ → Option ℕ → List ℕ → List ℕ → Definitions → Option ℕ → Level
  level_of at b o z acc ds body = record {
    block = b;
    place = o;
    counts = new_counts acc ds;
    depth = length z;
    first = at.guard;
    guards = rules_in ds;
    body = body;
  }

  abbrev mutual
    pub write : At → List ℕ → Process → Wrote
    write at y (Msg x vs) = wrote_one at (instr.Send (slot_or y x) (slots_or y vs))
    write at y (Par ps) = write_all at y ps
    write at y (Def ds p) =
        let z = y ++ order ds in
        let at1 = behind (inside at) (rules_in ds) in
        let d = write_defs at1 at.block 0 at.level (new_channels [] ds) z (new_channels [] ds) ds in
        let w = write d.piece.next z p in
        record {
          piece =
              let own = level_of at at.block None z [] ds None in
              let levels = at.level ∷ d.places in
              let block : Block = record { levels = levels; names = length (order ds) } in
              join (block_piece at (rules_in ds) own d.guards block) (join d.piece w.piece);
          instrs = instr.Enter at.block ∷ (w.instrs ++ instr.Leave (length (order ds)) ∷ []);
        }
    write at y (Go b k) = wrote_one at (instr.Go (slot_or y b) (slot_or y k))
    write at y (Fail a k) = wrote_one at (instr.Fail (slot_or y a) (slot_or y k))
    write at y Halt = wrote_one at instr.Halt

    pub write_all : At → List ℕ → Processes → Wrote
    write_all at y none = record { piece = no_piece at; instrs = [] }
    write_all at y (one_more p ps) =
        let w = write at y p in
        let v = write_all w.piece.next y ps in
        record { piece = join w.piece v.piece; instrs = w.instrs ++ v.instrs }

    -- the definitions of the level n, whose channels are these, in the block b of which so many
    -- places have been written, under the layout z, where these have a name
    pub write_defs : At → ℕ → ℕ → ℕ → List ℕ → List ℕ → List ℕ → Definitions → Defined
    write_defs at b i n channels z acc no_definition = no_definitions at
    write_defs at b i n channels z acc (and_also d ds) =
        let a = write_def at b i n channels z acc d in
        let named = acc ++ place_in acc d in
        join_defined a (write_defs a.piece.next b (i + length a.places) n channels z named ds)

    pub write_def : At → ℕ → ℕ → ℕ → List ℕ → List ℕ → List ℕ → Definition → Defined
    write_def at b i n channels z acc (Rule ps p) =
        let w = write at (z ++ params_of ps) p in
        record { guards = guard_of n channels ps p w ∷ []; places = []; piece = with_body w }
    write_def at b i n channels z acc (Place x es p) =
        let at1 = behind at (rules_in es) in
        let own = new_channels (acc ++ binder_of x) es in
        let d = write_defs at1 b 0 at.level own z (acc ++ place_order acc x es) es in
        let w = write d.piece.next z p in
        record {
          guards = [];
          places = at.level ∷ [];
          piece =
              let body = Some w.piece.next.body in
              let v = level_of at b (Some i) z (acc ++ binder_of x) es body in
              join (level_piece at (rules_in es) v d.guards) (join d.piece (with_body w));
        }

  -- ---- the sites

  abbrev pub site_defs : At → Definitions → Defined
  site_defs at ds =
      let at1 = behind (inside at) (rules_in ds) in
      let own = new_channels [] ds in
      write_defs at1 at.block 0 at.level own [] own ds

  abbrev pub site_body : At → Definitions → Process → Wrote
  site_body at ds p = write (site_defs at ds).piece.next [] p

  abbrev pub site_piece : At → Definitions → Process → Piece
  site_piece at ds p =
      let d = site_defs at ds in
      let own = level_of at at.block None [] [] ds None in
      let block : Block = record { levels = at.level ∷ d.places; names = length (order ds) } in
      let within = join d.piece (with_body (site_body at ds p)) in
      join (block_piece at (rules_in ds) own d.guards block) within

  abbrev pub site_code : At → Definitions → Process → SiteCode
  site_code at ds p = record { block = at.block; body = (site_body at ds p).piece.next.body }

  abbrev pub write_sites : At → List SiteTerm → WroteSites
  write_sites at [] = record { piece = no_piece at; sites = [] }
  write_sites at (t ∷ ts) =
      let a = site_piece at (term.definitions t.defs) t.body in
      let v = write_sites a.next ts in
      record {
        piece = join a v.piece;
        sites = site_code at (term.definitions t.defs) t.body ∷ v.sites;
      }

-- the code of a program
abbrev pub code_of : ProgramTerms → CodeParts
code_of p =
    let tops = site_names p.sites in
    let w = write_sites tops (record { level = 0; guard = 0; block = 0; body = 0 }) p.sites in
    record {
      guards = w.piece.guards;
      levels = w.piece.levels;
      blocks = w.piece.blocks;
      bodies = w.piece.bodies;
      seen = counts_of p.seen;
      tops = locs_in tops;
      sites = w.sites;
    }

-- What the reading of one field answers, and what it leaves.
use Rattle.std.specs.Prelude.{◌≡◌, ℕ, Bool, List, Option, Result, Ok, Err}
use Rattle.chem_model.specs.declared.event.AtomId.{AtomId}
use Rattle.chem_model.specs.declared.event.RuleId.{RuleId}
use Rattle.chem_model.specs.declared.name.Loc.{Loc}
use Rattle.chem_model.specs.declared.name.Name.{Name}
use Rattle.chem_model.specs.declared.name.Name.TheVariants as name
use Rattle.wire_packet.specs.GroupFacts.{GroupParts, RequestParts}
use Rattle.wire_packet.specs.declared.packet.Waiting.{Waiting}
use Rattle.wire_packet.specs.ParcelFacts.{ParcelParts}
use Rattle.wire_packet.specs.declared.fault.Fault.{Fault}
use Rattle.wire_packet.specs.declared.fault.Fault.TheVariants as fault
use Rattle.wire_packet.specs.declared.reading.Draft.{Draft}
use Rattle.wire_packet.specs.Format.{Format, field, four, eight}
use Rattle.wire_packet.specs.Packets.{any, numbers, may_site, may_k, names, group_list}
use Rattle.wire_packet.specs.Packets.{is_operation}
use Rattle.wire_packet.specs.Packets.{waiting_list, request_list}
use Rattle.wire_packet.specs.Reading.{read}

abbrev pub FailsAs : {Y : Type 0} → Fault → Result Y ℕ → Type 0
FailsAs fault.Memory r = Unit {0}
FailsAs (fault.Wrong left) r = r ≡ Err left

-- this is what reading gives
abbrev pub Gives : {X Y : Type 0} → (X → Y) → Result X Fault → Result Y ℕ → Type 0
Gives view (Ok x) r = r ≡ Ok (view x)
Gives view (Err e) r = FailsAs e r

-- A part of a format was read: whatever follows it, reading goes on behind it, or ends within it.
abbrev pub Reads : {X Y Z : Type 0} → (X → Y) → (X → List ℕ) → ((Y → Format Z) → Format Z)
    → List ℕ → Result X Fault → Type 0
Reads {X} {Y} {Z} view left part bytes (Ok x) =
    (next : Y → Format Z) → read (part next) bytes ≡ read (next (view x)) (left x)
Reads {X} {Y} {Z} view left part bytes (Err e) =
    (next : Y → Format Z) → FailsAs e (read (part next) bytes)

-- the parcel of these parts
abbrev pub drafted : Draft → ParcelParts
drafted d = record { loc = d.loc; groups = d.groups; waiting = d.waiting; requests = d.requests }

-- ---- parts of the format that a function reads

abbrev pub one_pair : {A : Type 0} → (ℕ × ℕ → Format A) → Format A
one_pair next = numbers (λ s k. next (s, k))

-- the names, each behind its tag
abbrev pub one_seen : {A : Type 0} → (Name → Format A) → Format A
one_seen next = field four any (λ i. next (name.Seen i))

abbrev pub one_place : {A : Type 0} → (Name → Format A) → Format A
one_place next = numbers (λ s k. next (name.Place (record { site = s; k = k })))

abbrev pub one_home : {A : Type 0} → Option Loc → (Loc → Format A) → Format A
one_home home next =
    field four (may_site home) (λ site.
    field eight (may_k home) (λ number.
    next (record { site = site; k = number })))

abbrev pub one_channel : {A : Type 0} → Option Loc → (Name → Format A) → Format A
one_channel home next = numbers (λ s k. one_home home (λ l. next (name.Chan s k l)))

abbrev pub one_number : {A : Type 0} → (Name → Format A) → Format A
one_number next = field eight any (λ n. next (name.Num n))

abbrev pub one_operation : {A : Type 0} → (Name → Format A) → Format A
one_operation next = field four is_operation (λ i. next (name.Op i))

-- the place of a name's tag in the table
abbrev pub tag_of : Name → ℕ
tag_of (name.Seen i) = 0
tag_of (name.Place a) = 1
tag_of (name.Chan s k h) = 2
tag_of (name.Num n) = 3
tag_of (name.Op i) = 4

-- what stands before the environment of a group: its level, and its two ids
abbrev pub group_head : {A : Type 0} → (ℕ × AtomId × RuleId → Format A) → Format A
group_head next =
    field four any (λ level.
    numbers (λ cs ck.
    numbers (λ rs rk.
    next (level, record { site = cs; k = ck }, record { site = rs; k = rk }))))

abbrev pub all_names : {A : Type 0} → (List Name → Format A) → Format A
all_names next = field four any (λ n. names n next)

-- the lists of a parcel, each behind its length
abbrev pub all_groups : {A : Type 0} → Loc → (List GroupParts → Format A) → Format A
all_groups l next = field four any (λ n. group_list l n next)

abbrev pub all_waiting : {A : Type 0} → Loc → (List Waiting → Format A) → Format A
all_waiting l next = field four any (λ n. waiting_list l n next)

abbrev pub all_requests :
    {A : Type 0} → Loc → (ℕ → ℕ → Bool) → (List RequestParts → Format A) → Format A
all_requests l taken next = field four any (λ n. request_list l taken n next)

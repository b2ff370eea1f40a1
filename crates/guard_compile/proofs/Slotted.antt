-- Terms of which each name has a slot.
use Rattle.std.proofs.Common.{◌≡◌, ℕ, ◌+◌, List, [], ◌∷◌, ◌++◌, length, Some, sym, ap, ◌∙◌}
use Rattle.chem_model.specs.declared.name.Ref.{Ref}
use Rattle.chem_model.specs.declared.name.Ref.TheVariants.{Binder}
use Rattle.chem_model.specs.declared.name.Pat.{Pat}
use Rattle.chem_model.specs.Process.{Process, Msg, Par, Def, Go, Fail, Halt, Processes, none}
use Rattle.chem_model.specs.Process.{one_more, Definition, Rule, Place, Definitions, no_definition}
use Rattle.chem_model.specs.Process.{and_also}
use Rattle.chem_model.specs.Binders.{binder_of, params_of}
use Rattle.chem_model.specs.Scope.{IsBinder}
use Rattle.chem_model.specs.Fill.{Naming}
use Rattle.chem_model.specs.Each.{Each}
use Rattle.env_store.specs.declared.code.Slot.{Slot}
use Rattle.env_store.specs.Layout.{new_channels, place_order, place_in, order}
use Rattle.env_store.specs.Reading.{position, slot_of, AreSlots, AreChannels, ChannelsAt, PlacesAt}
use Rattle.guard_compile.specs.Written.{some_slot, some_place, channel_of, channels_of}
use Rattle.guard_compile.specs.Written.{slot_or, slots_or}

-- the channel is one of the level
abbrev pub IsChannel : List ℕ → Ref → Type 0
IsChannel channels x = (b : ℕ) × (i : ℕ) × (x ≡ Binder b) × (position channels b ≡ Some i)

module _ (tops : Naming) where
  abbrev pub HasSlot : List ℕ → Ref → Type 0
  HasSlot y x = (s : Slot) × (slot_of tops y x ≡ Some s)

  abbrev mutual
    pub Slotted : List ℕ → Process → Type 0
    Slotted y (Msg x vs) = HasSlot y x × Each (HasSlot y) vs
    Slotted y (Par ps) = AllSlotted y ps
    Slotted y (Def ds p) =
        PlacesAt tops (y ++ order ds) (new_channels [] ds) (length y + length (new_channels [] ds))
        ds × DefsSlotted (y ++ order ds) (new_channels [] ds) (new_channels [] ds) ds
        × Slotted (y ++ order ds) p
        × ChannelsAt tops (y ++ order ds) (length y) (new_channels [] ds)
    Slotted y (Go b k) = HasSlot y b × HasSlot y k
    Slotted y (Fail b k) = HasSlot y b × HasSlot y k
    Slotted y Halt = Unit {0}

    pub AllSlotted : List ℕ → Processes → Type 0
    AllSlotted y none = Unit {0}
    AllSlotted y (one_more p ps) = Slotted y p × AllSlotted y ps

    pub DefsSlotted : List ℕ → List ℕ → List ℕ → Definitions → Type 0
    DefsSlotted z channels acc no_definition = Unit {0}
    DefsSlotted z channels acc (and_also d ds) =
        DefSlotted z channels acc d × DefsSlotted z channels (acc ++ place_in acc d) ds

    pub DefSlotted : List ℕ → List ℕ → List ℕ → Definition → Type 0
    DefSlotted z channels acc (Rule ps p) =
        Each (λ (q : Pat). IsChannel channels q.on) ps × Slotted (z ++ params_of ps) p
    DefSlotted z channels acc (Place x es p) = IsBinder x
        × DefsSlotted z (new_channels (acc ++ binder_of x) es) (acc ++ place_order acc x es) es
        × Slotted z p

  -- ---- what is written there

  pub slot_is : (y : List ℕ) (x : Ref) → HasSlot y x → slot_of tops y x ≡ Some (slot_or tops y x)
  slot_is y x h = h.1 ∙ ap (λ o. Some (some_slot o)) (sym h.1)

  pub slots_are : (y : List ℕ) (vs : List Ref) → Each (HasSlot y) vs
      → AreSlots tops y vs (slots_or tops y vs)
  slots_are y [] h = tt
  slots_are y (v ∷ vs) h = (slot_is y v h.0, slots_are y vs h.1)

pub channel_is : (channels : List ℕ) (x : Ref) (b i : ℕ) → x ≡ Binder b
    → position channels b ≡ Some i → position channels b ≡ Some (channel_of channels x)
channel_is channels x b i e f =
    f ∙ ap (λ o. Some (some_place o)) (sym f) ∙ ap (λ y. Some (channel_of channels y)) (sym e)

pub channels_are : (channels : List ℕ) (ps : List Pat)
    → Each (λ (q : Pat). IsChannel channels q.on) ps
    → AreChannels channels ps (channels_of channels ps)
channels_are channels [] h = tt
channels_are channels (p ∷ ps) h =
    ((h.0.0, h.0.2, channel_is channels p.on h.0.0 h.0.1 h.0.2 h.0.3), channels_are channels ps h.1)

-- Scanning: a cell of the store keeps the pair that an open scan saved.
use Rattle.std.specs.Prelude.{ℕ, List, [], ◌∷◌, ◌++◌, length, slice_index_or, slice_set}
use Rattle.icn_meaning.specs.Contexts.{Surroundings, InCall, InCreate, InScan, InLoop, InControl, Pair, Store}

-- the subject and the position at present
abbrev pub pair_now : Store → Pair
pair_now st = record { subject = st.world.subject; position = st.world.position }

-- the pair that a cell keeps
abbrev pub saved_in : ℕ → Store → Pair
saved_in p st = slice_index_or st.saved p (record { subject = []; position = 1 })

-- the subject and the position are these
abbrev pub with_pair : Pair → Store → Store
with_pair pair st = record st { world = record st.world { subject = pair.subject; position = pair.position } }

-- the cell that the next scan saves its pair in
abbrev pub new_cell : Store → ℕ
new_cell st = length st.saved

-- the present pair is saved in a new cell, and the text is scanned from its start on
abbrev pub enter_scan : List ℕ → Store → Store
enter_scan text st =
    with_pair (record { subject = text; position = 1 }) (record st { saved = st.saved ++ pair_now st ∷ [] })

-- the pair of the cell becomes the present one
abbrev pub restore_pair : ℕ → Store → Store
restore_pair p st = with_pair (saved_in p st) st

-- the present pair and that of the cell change places
abbrev pub exchange_pairs : ℕ → Store → Store
exchange_pairs p st = with_pair (saved_in p st) (record st { saved = slice_set st.saved p (pair_now st) })

-- the pair of the oldest scan is exchanged with the present one, if a scan is open
abbrev pub exchanged_if : List ℕ → Store → Store
exchanged_if [] st = st
exchanged_if (p ∷ []) st = exchange_pairs p st
exchanged_if (p ∷ q ∷ cells) st = exchanged_if (q ∷ cells) st

-- the open scans, the newest first
abbrev pub scans_of : Surroundings → List ℕ
scans_of (InCall frame k r) = []
scans_of (InCreate frame) = []
scans_of (InScan p s) = p ∷ scans_of s
scans_of (InLoop s k r a rn) = scans_of s
scans_of (InControl s k r) = scans_of s

-- the present pair changes places with that of the oldest open scan, if there is one
abbrev pub exchanged_oldest : Surroundings → Store → Store
exchanged_oldest s st = exchanged_if (scans_of s) st

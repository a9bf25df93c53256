-- What a stop leaves after a call of a disk's store, it left before or the call began it.
use Rattle.std.proofs.Common.{◌≡◌, ◌⊎◌, inl, inr, ℕ, ◌+◌, ◌-◌, ◌≤◌, List, ◌++◌, length, take, min, refl, sym, ap, ◌∙◌, arith}
use Rattle.std.proofs.lemmas.List.{take-append-le, take_all, take-take, length-take}
use Rattle.std.proofs.Math.Seq.{take-append-add}
use native.Mathlib.Decide.{dec_le}
use Rattle.vote_journal.specs.Store.{Adds, Begun, Just, NoMore, Only, Shortened}
use Rattle.cluster_parts.specs.declared.disk.DiskStore.{DiskStore}
use Rattle.cluster_parts.specs.Disk.{MayLeave}

-- ---- an append

begun_all : (stood more c : List ℕ) → c ≡ stood ++ more → Begun stood more c
begun_all stood more c e = (length more, e ∙ ap (λ (x : List ℕ). stood ++ x) (sym (take_all (length more) more (omega arith))))

by_place : (old new : DiskStore) (more c : List ℕ) (k : ℕ) → new.bytes.items ≡ old.bytes.items ++ more → new.floor ≡ old.floor → new.floor ≤ k → c ≡ take k new.bytes.items
    → Dec (k ≤ length old.bytes.items) → MayLeave old c ⊎ Begun old.bytes.items more c
by_place old new more c k e f le is (yes d) = inl (inr (k, omega (arith, le, f), is ∙ ap (take k) e ∙ take-append-le k old.bytes.items more d))
by_place old new more c k e f le is (no d) =
    let stood : List ℕ = old.bytes.items in
    let rest : k ≡ length stood + (k - length stood) = omega (arith, d) in
    inr (k - length stood, is ∙ ap (take k) e ∙ ap (λ (n : ℕ). take n (stood ++ more)) rest ∙ take-append-add stood more (k - length stood))

pub append_leaves : (old new : DiskStore) (more : List ℕ) → new.bytes.items ≡ old.bytes.items ++ more → new.floor ≡ old.floor → Adds (Begun old.bytes.items more) (MayLeave old) (MayLeave new)
append_leaves old new more e f c (inl h) = inr (begun_all old.bytes.items more c (h ∙ e))
append_leaves old new more e f c (inr h) = by_place old new more c h.0 e f h.1 h.2 (dec_le h.0 (length old.bytes.items))

begun_more : (stood bytes c : List ℕ) (keep m : ℕ) → c ≡ stood ++ take m (take keep bytes) → Dec (m ≤ keep) → Begun stood bytes c
begun_more stood bytes c keep m e (yes d) = (m, e ∙ ap (λ (x : List ℕ). stood ++ x) (take-take m keep bytes d))
begun_more stood bytes c keep m e (no d) = (keep, e ∙ ap (λ (x : List ℕ). stood ++ x) (take_all m (take keep bytes) (omega (arith, d, length-take keep bytes))))

shorter : (old : DiskStore) (bytes c : List ℕ) (keep : ℕ) → MayLeave old c ⊎ Begun old.bytes.items (take keep bytes) c → MayLeave old c ⊎ Begun old.bytes.items bytes c
shorter old bytes c keep (inl h) = inl h
shorter old bytes c keep (inr h) = inr (begun_more old.bytes.items bytes c keep h.0 h.1 (dec_le h.0 keep))

pub beginning_leaves : (old new : DiskStore) (bytes : List ℕ) (keep : ℕ) → new.bytes.items ≡ old.bytes.items ++ take keep bytes → new.floor ≡ old.floor → Adds (Begun old.bytes.items bytes) (MayLeave old) (MayLeave new)
beginning_leaves old new bytes keep e f c left = shorter old bytes c keep (append_leaves old new (take keep bytes) e f c left)

-- ---- a cut

cut_by_place : (old new : DiskStore) (len : ℕ) (c : List ℕ) (k : ℕ) → new.bytes.items ≡ take len old.bytes.items → new.floor ≡ min old.floor len → new.floor ≤ k → c ≡ take k new.bytes.items
    → Dec (len ≤ k) → MayLeave old c ⊎ Shortened len old.bytes.items c
cut_by_place old new len c k e f le is (yes d) =
    inr (len, omega arith, is ∙ ap (take k) e ∙ take_all k (take len old.bytes.items) (omega (arith, d, length-take len old.bytes.items)))
cut_by_place old new len c k e f le is (no d) =
    inl (inr (k, omega (arith, le, f, d), is ∙ ap (take k) e ∙ take-take k len old.bytes.items (omega (arith, d))))

pub cut_leaves : (old new : DiskStore) (len : ℕ) → new.bytes.items ≡ take len old.bytes.items → new.floor ≡ min old.floor len → Adds (Shortened len old.bytes.items) (MayLeave old) (MayLeave new)
cut_leaves old new len e f c (inl h) = inr (len, omega arith, h ∙ e)
cut_leaves old new len e f c (inr h) = cut_by_place old new len c h.0 e f h.1 h.2 (dec_le len h.0)

-- ---- a sync

pub sync_leaves : (old new : DiskStore) → new.bytes.items ≡ old.bytes.items → new.floor ≡ length old.bytes.items → Only old.bytes.items (MayLeave new)
sync_leaves old new e f c (inl h) = h ∙ e
sync_leaves old new e f c (inr h) = h.2 ∙ take_all h.0 new.bytes.items (omega (arith, h.1, f, ap length e)) ∙ e

pub no_more : (old new : DiskStore) → new.bytes.items ≡ old.bytes.items → new.floor ≡ length old.bytes.items → NoMore (MayLeave old) (MayLeave new)
no_more old new e f c left = inl (sync_leaves old new e f c left)

pub found_stands : (new : DiskStore) → new.floor ≡ length new.bytes.items → Just new.bytes.items (MayLeave new)
found_stands new f = (inl refl, sync_leaves new new refl f)

pub stays : (old new : DiskStore) → new.bytes.items ≡ old.bytes.items → new.floor ≡ old.floor → NoMore (MayLeave old) (MayLeave new)
stays old new e f c (inl h) = inl (h ∙ e)
stays old new e f c (inr h) = inr (h.0, omega (arith, h.1, f), h.2 ∙ ap (take h.0) e)

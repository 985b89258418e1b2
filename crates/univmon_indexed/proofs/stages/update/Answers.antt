-- `univmon_indexed::stages::update` meets its contract.
use mathlib.Core.Path.{◌≡◌, refl, sym, ap, ◌∙◌}
use lib.ListN.{length}
use lib.IntN.{nat_abs}
use mir.Facts.{to_z-of_z}
use Rattle.words.specs.Tests.{number}
use Rattle.header.specs.Header.{head_of}
use Rattle.layout.specs.Slices.{Lent, lent}
use Rattle.univmon_indexed.specs.inner.Needs.{sound_tests_in}
use Rattle.univmon_indexed.proofs.Updating.{key-ready_in, staged_unsound, staged_unbegun, staged_begun}
use Rattle.std.proofs.lemmas.Result.{err_from_is_err_and}
use Rattle.refusal.specs.Refusals.{number_of, refused}
use Rattle.refusal.proofs.Numbers.{number-ne0}
use Rattle.univmon_indexed.proofs.stages.update.Goals as goal
use Rattle.univmon_indexed.proofs.stages.update.Goals.{After-magnitude, After-check_sound, In_ok-check_sound, Start}

-- the state that is lent
abbrev lent_of : Start → Lent
lent_of c = lent (head_of c.args.scalars c.args.lens.now c.args.flags.now) c.args.counters.now c.args.norms.now c.args.entries.now c.args.counts.now

-- what the first tests answered, of the state that is lent
number_is : (c : After-check_sound) → refused c.check_sound.result ≡ number (sound_tests_in (lent_of (goal.at.After-check_sound c).Start) (length c.args.index.now) (length c.args.«record».now))
number_is c = c.check_sound.ensures

-- header, lengths and record were found right
sound : (c : In_ok-check_sound) → number (sound_tests_in (lent_of (goal.at.In_ok-check_sound c).Start) (length c.args.index.now) (length c.args.«record».now)) ≡ 0
sound c = sym (number_is (goal.at.In_ok-check_sound c).After-check_sound) ∙ ap refused c.in_ok-check_sound.was

weight_is : (c : After-magnitude) → c.magnitude.result ≡ nat_abs c.args.weight
weight_is c = rw (to_z-of_z c.ranges.weight) at c.magnitude.ensures

pub returns-in_err-check_sound : goal.returns-in_err-check_sound
returns-in_err-check_sound c =
    let p = err_from_is_err_and c.from_residual.result c.from_residual.ensures.1 in
    rw (p.1, p.2) (let a = c.args in record {
      value = staged_unsound a.kind (refused a.begins) (lent_of (goal.at.returns-in_err-check_sound c).Start) a.index.now a.«record».now a.weight (length a.list.now) _ (rw c.in_err-check_sound.was at (number_is (goal.at.returns-in_err-check_sound c).After-check_sound)) (number-ne0 c.in_err-check_sound.field-0.0);
      key_sent_or_kept = record { sent = λ z. absurd ((number-ne0 c.in_err-check_sound.field-0.0) z); kept = λ q. record { lends = refl; index = refl; told = refl } };
    })

pub returns-in_err-begins : goal.returns-in_err-begins
returns-in_err-begins c =
    let p = err_from_is_err_and c.from_residual-in_err-begins.result c.from_residual-in_err-begins.ensures.1 in
    let z : refused c.args.begins ≡ number_of c.in_err-begins.field-0.0 = ap refused c.in_err-begins.was in
    rw (p.1, p.2) (let a = c.args in record {
      value = sym z ∙ staged_unbegun a.kind (refused a.begins) (lent_of (goal.at.returns-in_err-begins c).Start) a.index.now a.«record».now a.weight (length a.list.now) (sound (goal.at.returns-in_err-begins c).In_ok-check_sound) (λ q. number-ne0 c.in_err-begins.field-0.0 (sym z ∙ q));
      key_sent_or_kept = record { sent = λ z. absurd ((number-ne0 c.in_err-begins.field-0.0) z); kept = λ q. record { lends = refl; index = refl; told = refl } };
    })

pub send_key-requires : goal.send_key-requires
send_key-requires c =
    let a = c.args in
    rw (weight_is (goal.at.send_key-requires c).After-magnitude) (record {
      key_ready_in = key-ready_in (lent_of (goal.at.send_key-requires c).Start) a.index.now a.«record».now (nat_abs a.weight) (sound (goal.at.send_key-requires c).In_ok-check_sound) (c.requires (ap refused c.in_ok-begins.was));
      bottom_hash_value = c.bottom_word-bottom_hash.ensures;
    })

pub returns : goal.returns
returns c =
    let a = c.args in
    record {
      value = rw (weight_is (goal.at.returns c).After-magnitude) at c.send_key.ensures.value ∙ staged_begun a.kind (refused a.begins) (lent_of (goal.at.returns c).Start) a.index.now a.«record».now a.weight (length a.list.now) (sound (goal.at.returns c).In_ok-check_sound) (ap refused c.in_ok-begins.was);
      key_sent_or_kept = rw (weight_is (goal.at.returns c).After-magnitude) at c.send_key.ensures.key_sent_or_kept;
    }

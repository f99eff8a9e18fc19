-- The form of packets from train to track whose layout is not known (SUBSET-026, 7.4.1). Their
-- bodies are kept as bits. They have no Q_DIR.
use Rattle.std.specs.Prelude.{codes, refl}
use Rattle.etcs_radio.specs.FoundRaw.{make_raw}
use Rattle.etcs_radio.specs.TrainNumbers.{nid_raw}
use Rattle.etcs_radio.specs.RawTrain.{raw_again, raw_train_packet as raw_layout}
use Rattle.etcs_schema.specs.CountedBody.{counted_body}
use Rattle.etcs_schema.specs.Codec.{ObjectMembers, closed, key, named, ◌then◌}
use Rattle.etcs_schema.specs.Variables.{variable}

-- a train packet whose number is neither a position report's nor the end mark's; 8 bits precede L_PACKET
unfoldable pub raw_train_packet : ObjectMembers raw_layout.rows
raw_train_packet =
    closed (named
    (λ p. make_raw p.0 p.1)
    (λ r. (r.number, r.body))
    raw_again
    (key (codes "nid_packet") (variable nid_raw) then counted_body 8)) refl

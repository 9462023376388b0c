-- The public key of a signing key: HSS with one level (RFC 8554, sections 5.3 and 6.1).
use Rattle.hss_chain.specs.declared.key.HssKey.{HssKey}
use Rattle.lms_sign.specs.declared.key.SignKey.{SignKey}
use Rattle.lms_sign.specs.Nodes.{tree_node}

-- one level, with the key's kinds and I, and the value T[1] of the root (5.3, 6.1)
abbrev pub public_key : SignKey → HssKey
public_key key = record {
  levels = 1;
  top = record { kind = key.kind; ots = key.ots; id = key.id; root = tree_node key 1 };
}

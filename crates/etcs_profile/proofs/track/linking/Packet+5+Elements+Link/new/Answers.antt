use Rattle.std.proofs.Common.{arith}
use Rattle.etcs_bits.specs.layout.Rows.{alone}
use Rattle.etcs_bits.specs.layout.Format.{◌then◌, if_there}
use Rattle.etcs_bits.specs.variables.VariableFormats.{nid_c, nid_bg}
use Rattle.etcs_bits.proofs.WidthLemmas.{width_both}
use Rattle.etcs_profile.specs.Elements.{profile}
use Rattle.etcs_profile.specs.Track.{link, q_linkorientation, q_linkreaction, q_locacc}
use Rattle.etcs_profile.proofs.ShortLemmas.{IsShort, option_short, elements_built}
use Rattle.etcs_profile.proofs.track.linking.Packet+5+Elements+Link.new.Goals as goal

link_short : IsShort link 49
unfolding alone
link_short l =
    let after = (nid_bg then q_linkorientation then q_linkreaction then q_locacc).rows (l.group, (l.nominal, (l.reaction, l.accuracy))) in
    omega (arith, width_both ((if_there nid_c).rows l.country) after, option_short nid_c 10 (λ n. omega arith) l.country)

-- 32 links have at most 1,568 bits
pub returns : goal.returns
returns c =
    elements_built 5 link 49 link_short (omega arith) (c.args.dir, profile c.args.scale c.args.first c.args.further.items) c.build.result c.build.ensures
